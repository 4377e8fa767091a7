pub mod Keys
pub mod KindWords
pub mod Parts
pub mod Slots
pub mod Summaries
pub mod UpdateWords
pub mod Updates
