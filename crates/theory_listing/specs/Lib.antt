pub mod Protocol
pub mod World
pub mod Rule
pub mod Promises
pub mod Parts
pub mod Runs
pub mod Laws
