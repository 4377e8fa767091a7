pub mod Replica
pub mod Laws
pub mod Root
pub mod Replicas
pub mod InOrder
pub mod Index
pub mod Unacked
pub mod IndexInside
