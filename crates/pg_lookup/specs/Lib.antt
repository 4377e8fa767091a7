pub mod Walk
pub mod Chain
