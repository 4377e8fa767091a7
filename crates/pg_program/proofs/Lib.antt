pub mod Asked
pub mod Ends
pub mod Heeded
pub mod Idle
pub mod Nodes
