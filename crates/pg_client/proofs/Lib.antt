pub mod Hears
pub mod Ending
pub mod Calls
