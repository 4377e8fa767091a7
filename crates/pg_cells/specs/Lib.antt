pub mod Sending
pub mod Cells
pub mod Acks
pub mod Ticks
pub mod Finish
pub mod Settling
pub mod Raised
pub mod Counts
pub mod KeyFilter
pub use Rattle.pg_pieces.specs as pg_pieces
pub use Rattle.pg_pieces.specs.pg_call as pg_call
pub use Rattle.pg_pieces.specs.pg_house as pg_house
pub use Rattle.pg_pieces.specs.pg_intent as pg_intent
pub use Rattle.pg_pieces.specs.pg_msg as pg_msg
pub use Rattle.pg_pieces.specs.pg_names as pg_names
pub use Rattle.pg_pieces.specs.pg_replica as pg_replica
pub use Rattle.pg_pieces.specs.pg_store as pg_store
