pub mod Lasting
pub mod Deaths
pub mod Fronts
pub mod Letters
pub mod MadeDeaths
pub mod Gating
pub mod Knowing
pub mod Gated
pub mod Empty
pub mod Begun
pub mod Returned
pub mod HouseDirs
pub mod Staying
pub mod Justified
pub mod OfTakes
pub use Rattle.law_names.proofs as law_names
