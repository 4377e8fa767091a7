pub mod Cause
pub mod Fields
pub mod Line
pub mod Schedule
