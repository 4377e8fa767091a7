pub mod Stays
pub mod Events
