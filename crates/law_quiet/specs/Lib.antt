pub mod Laws
pub mod Given
pub use Rattle.law_listings.specs.law_places as law_places
pub use Rattle.law_listings.specs as law_listings
