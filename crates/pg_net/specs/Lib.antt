pub mod Counts
pub mod Net
pub mod MemoryNet
pub mod Clock
pub mod Spawner
