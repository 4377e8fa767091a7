pub mod Widths
pub mod Faults
