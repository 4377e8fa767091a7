pub mod Making
pub mod Naming
pub mod Bodies
pub mod Looks
pub mod Demoting
pub mod Dropping
pub mod Forgetting
pub mod GivingUp
pub mod Calls
pub mod Refused
pub use Rattle.pg_cells.specs.pg_call as pg_call
pub use Rattle.pg_cells.specs.pg_house as pg_house
pub use Rattle.pg_cells.specs.pg_intent as pg_intent
pub use Rattle.pg_checks.specs.pg_lookup as pg_lookup
pub use Rattle.pg_cells.specs.pg_msg as pg_msg
pub use Rattle.pg_cells.specs.pg_names as pg_names
pub use Rattle.pg_cells.specs.pg_replica as pg_replica
pub use Rattle.pg_cells.specs.pg_store as pg_store
pub use Rattle.pg_cells.specs.pg_pieces as pg_pieces
pub use Rattle.pg_cells.specs as pg_cells
pub use Rattle.pg_intentions.specs.pg_graph as pg_graph
pub use Rattle.pg_intentions.specs.pg_repair as pg_repair
pub use Rattle.pg_intentions.specs as pg_intentions
pub use Rattle.pg_checks.specs as pg_checks
