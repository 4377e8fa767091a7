pub mod Pieces
pub mod Messages
pub mod Calls
pub mod Doubted
pub mod Ended
pub mod Confirming
