pub mod JournalLine
pub mod Text
pub mod Spelled
pub mod Suited
