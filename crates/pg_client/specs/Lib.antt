pub mod Replies
pub mod Asks
