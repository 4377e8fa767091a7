pub mod Sound
pub mod Saying
pub mod Named
pub mod Laws
