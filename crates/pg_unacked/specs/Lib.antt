pub mod Due
pub mod Place
pub mod Owes
pub mod Changes
