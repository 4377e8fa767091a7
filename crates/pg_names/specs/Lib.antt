pub mod Names
pub mod Same
pub mod Calm
pub mod Indexed
pub mod Tests
