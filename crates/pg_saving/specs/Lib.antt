pub mod Usable
pub mod Saves
