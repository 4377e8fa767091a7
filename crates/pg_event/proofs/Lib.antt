pub mod Quiets
pub mod Voids
