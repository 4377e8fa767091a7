pub mod Standing
pub mod Waiting
pub mod Bags
pub mod Kept
pub mod Acting
