pub mod LeaveOk
pub mod Byes
pub use Rattle.pg_pieces.proofs as pg_pieces
pub use Rattle.pg_pieces.proofs.pg_intent as pg_intent
pub use Rattle.pg_pieces.proofs.pg_msg as pg_msg
