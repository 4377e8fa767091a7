pub mod Disk
pub mod Told
pub mod Moments
pub mod Synced
pub mod Memory
pub mod Images
