pub mod Reason
pub mod Told
pub mod Reading
