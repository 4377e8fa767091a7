pub mod Joined
pub mod Carried
