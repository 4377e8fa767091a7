pub mod Calls
pub mod Moments
pub mod Tries
pub mod Growing
