pub mod Bounds
pub mod Steps
pub mod Summaries
pub mod Counted
pub mod Numbered
