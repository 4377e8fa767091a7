pub mod Asked
pub mod Refusals
pub use Rattle.law_turns.specs as law_turns
