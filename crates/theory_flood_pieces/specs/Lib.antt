pub mod UpTo
pub mod Names
pub mod Histories
pub mod Whole
pub mod Seen
pub mod Laws
pub mod Growing
