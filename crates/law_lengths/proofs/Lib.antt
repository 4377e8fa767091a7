mod Fields
mod Messages
mod Replies
mod Rows
mod Calls
mod Steps
