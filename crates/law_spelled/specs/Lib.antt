pub mod Stores
pub mod Messages
pub mod Laws
