pub mod Plain
pub mod Readings
pub mod Lengths
pub mod Within
pub mod Written
