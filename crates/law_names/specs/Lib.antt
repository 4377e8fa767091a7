pub mod Goes
pub mod Merged
pub use Rattle.law_passing.specs as law_passing
