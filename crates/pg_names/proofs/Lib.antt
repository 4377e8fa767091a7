pub mod Writes
pub mod Lookups
pub mod Holding
pub mod Gone
pub mod Alike
mod Going
mod Frames
mod Changing
mod Departing
mod Arriving
mod Standing
mod Settling
mod Listed
mod Marking
mod Steps
mod Shifting
mod Ascending
mod Moves
mod Joining
