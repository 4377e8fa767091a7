pub mod Left
mod Orders
mod Latest
mod Asked
pub mod Ended
pub mod Runs
