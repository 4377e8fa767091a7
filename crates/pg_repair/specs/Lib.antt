pub mod Fetching
pub mod Granting
pub mod Filling
pub mod Confirming
pub mod Telling
pub mod NoneHere
