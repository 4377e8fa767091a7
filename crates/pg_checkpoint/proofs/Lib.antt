pub mod Pieces
pub mod Slots
pub mod Syncs
pub mod Replacing
pub mod Counts
pub mod Outcomes
pub mod Heads
pub mod Saving
