pub mod Slots
pub mod Loads
pub mod Saves
pub mod Heads
