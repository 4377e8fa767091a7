pub mod Letters
pub mod Laws
pub use Rattle.theory_listing.specs as theory_listing
pub use Rattle.theory_listing_house.specs as theory_listing_house
pub use Rattle.law_places.specs as law_places
