pub mod News
mod Flagged
mod SeenGolds
pub mod Each
mod FirstChild
pub use Rattle.pg_store.proofs.pg_house as pg_house
pub use Rattle.pg_store.proofs.pg_intent as pg_intent
pub use Rattle.pg_store.proofs.pg_house.pg_msg as pg_msg
pub use Rattle.pg_store.proofs.pg_names as pg_names
pub use Rattle.pg_store.proofs.pg_replica as pg_replica
pub use Rattle.pg_store.proofs as pg_store
