pub mod Shown
pub mod Content
pub mod Index
pub mod Indexed
pub mod History
pub mod StandsFor
pub mod Covering
