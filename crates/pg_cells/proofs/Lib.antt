mod Counted
mod Listed
mod Raising
pub mod Settled
pub mod Ruled
pub mod Live
pub mod Calmed
pub use Rattle.pg_pieces.proofs as pg_pieces
pub use Rattle.pg_pieces.proofs.pg_house as pg_house
pub use Rattle.pg_pieces.proofs.pg_intent as pg_intent
pub use Rattle.pg_pieces.proofs.pg_msg as pg_msg
pub use Rattle.pg_pieces.proofs.pg_names as pg_names
pub use Rattle.pg_pieces.proofs.pg_replica as pg_replica
pub use Rattle.pg_pieces.proofs.pg_store as pg_store
