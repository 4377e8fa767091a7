pub mod MessageFields
pub mod Messages
pub mod Numbered
pub mod Targets
pub mod Calls
pub mod Refusals
pub mod Replies
pub mod Whole
