pub mod Settled
pub mod Gone
pub mod Journals
pub mod Showing
pub mod Alike
pub mod Lined
pub mod Soaked
