pub mod Fields
pub mod Fits
pub mod Messages
pub mod Calls
pub mod DatagramValue
pub mod Datagrams
