pub mod Later
pub mod Whole
pub mod Spelling
pub mod Built
