pub mod Text
pub mod Sent
pub mod Ends
pub mod Work
pub mod UpdateText
pub mod VersionWords
pub mod Numbers
