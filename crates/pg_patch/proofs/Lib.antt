pub mod Built
pub mod Composed
pub mod Over
pub mod Parts
pub mod Passing
pub mod Pieces
pub mod Same
