pub mod Linked
pub mod Words
pub mod Asked
pub mod Events
