pub mod Kept
pub mod Chain
pub mod Taking
pub mod Leading
pub mod Whole
