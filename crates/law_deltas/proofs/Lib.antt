pub mod Computed
pub mod Answered
pub mod Shortest
