pub mod Newest
pub mod Tells
pub mod Gets
pub mod Passing
