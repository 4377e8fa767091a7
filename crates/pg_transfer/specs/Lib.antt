pub mod Asking
pub mod Taking
pub mod Harbinger
pub mod Want
pub mod Piece
pub mod Delta
pub mod Later
