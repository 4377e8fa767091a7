pub mod Confirms
