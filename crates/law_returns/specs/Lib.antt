pub mod Gate
pub mod Returns
pub use Rattle.law_full.specs as law_full
pub use Rattle.law_names.specs as law_names
