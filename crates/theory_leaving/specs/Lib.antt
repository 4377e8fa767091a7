pub mod Protocol
pub mod Moment
pub mod Rule
pub mod Laws
