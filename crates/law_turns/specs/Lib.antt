pub mod Targets
pub mod Turns
pub use Rattle.law_begins.specs as law_begins
