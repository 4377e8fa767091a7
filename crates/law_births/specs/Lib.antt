pub mod Premises
pub mod Flags
