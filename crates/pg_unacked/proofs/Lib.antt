pub mod Orders
mod Cuts
mod Places
mod Peers
pub mod Dues
mod EdgeKeys
pub mod DueKeys
pub mod Comings
pub mod Redues
