pub mod Lines
pub mod Suiting
