pub mod Usable
pub mod Outcomes
