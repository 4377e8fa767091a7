pub mod Firsts
pub mod Paths
pub mod Cuts
pub mod Tested
