pub mod Kept
pub mod Facts
pub mod Given
pub mod Witness
pub use Rattle.law_golds.specs.law_contents as law_contents
pub use Rattle.law_golds.specs.law_births as law_births
pub use Rattle.law_golds.specs as law_golds
pub use Rattle.law_leaving.specs as law_leaving
pub use Rattle.law_quiet.specs.law_places as law_places
pub use Rattle.law_quiet.specs.law_listings as law_listings
pub use Rattle.law_quiet.specs as law_quiet
