pub mod Filling
pub mod Laying
pub mod Parts
pub mod Ranges
