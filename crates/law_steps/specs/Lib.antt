pub mod Refused
pub use Rattle.law_refused.specs as law_refused
