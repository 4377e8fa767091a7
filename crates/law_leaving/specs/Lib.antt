pub mod Taken
pub mod Answers
pub mod Gone
pub mod Seen
pub mod Laws
pub mod Premises
