pub mod Ending
pub mod Seen
pub mod Written
pub mod Outside
pub mod Acts
