pub mod Lack
pub mod Part
pub mod Note
pub mod Messages
pub mod Course
pub mod Sketch
pub mod Picture
pub mod Counts
