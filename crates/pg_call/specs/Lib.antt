pub mod Call
pub mod Fault
pub mod Fields
pub mod Refusal
pub mod Reply
pub use Rattle.pg_intent.specs as pg_intent
