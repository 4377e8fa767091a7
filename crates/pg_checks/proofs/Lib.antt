mod Components
mod Telling
mod Parts
pub mod Stopping
mod Holders
