pub mod Entry
pub mod Event
pub mod Meter
pub mod Quiet
pub mod Status
