pub mod Asking
pub mod Listing
pub mod Answer
pub mod Paths
pub mod Checks
pub use Rattle.pg_lookup.specs as pg_lookup
