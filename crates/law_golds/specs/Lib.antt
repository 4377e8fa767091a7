pub mod Premises
pub mod Laws
pub use Rattle.law_contents.specs.law_order as law_order
pub use Rattle.law_contents.specs as law_contents
pub use Rattle.law_births.specs as law_births
