pub mod Done
pub mod Posting
pub mod Accepting
pub mod Intending
pub mod Taking
pub mod Making
pub mod Golds
pub mod Parting
pub use Rattle.pg_call.specs as pg_call
pub use Rattle.pg_store.specs.pg_house as pg_house
pub use Rattle.pg_store.specs.pg_intent as pg_intent
pub use Rattle.pg_store.specs.pg_house.pg_msg as pg_msg
pub use Rattle.pg_store.specs.pg_names as pg_names
pub use Rattle.pg_store.specs.pg_replica as pg_replica
pub use Rattle.pg_store.specs as pg_store
