pub mod Orders
pub mod Flags
pub mod Edges
pub mod Contents
pub mod Replicas
pub mod Intents
pub mod Spelling
