pub mod Moments
pub mod Hearing
pub mod Golds
pub mod Kept
