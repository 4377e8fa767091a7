pub mod Work
pub mod Passing
pub mod Placing
pub mod Returning
pub mod Cycles
pub mod House
pub mod Facts
pub mod Calm
pub mod Holding
pub use Rattle.pg_msg.specs as pg_msg
