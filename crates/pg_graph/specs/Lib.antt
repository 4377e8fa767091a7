pub mod Seeking
pub mod Walks
pub mod Leaving
pub use Rattle.pg_pieces.specs as pg_pieces
pub use Rattle.pg_pieces.specs.pg_house as pg_house
pub use Rattle.pg_pieces.specs.pg_intent as pg_intent
pub use Rattle.pg_pieces.specs.pg_msg as pg_msg
pub use Rattle.pg_pieces.specs.pg_names as pg_names
pub use Rattle.pg_pieces.specs.pg_replica as pg_replica
pub use Rattle.pg_pieces.specs.pg_store as pg_store
