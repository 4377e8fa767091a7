mod Lengths
pub mod Checked
pub mod Walked
pub mod InTime
pub mod Lost
mod First
pub mod New
mod Made
mod Denials
pub mod Missing
pub mod Struck
pub mod Refused
pub mod Late
pub mod Filled
pub mod LastPlace
pub use Rattle.pg_cells.proofs.pg_house as pg_house
pub use Rattle.pg_cells.proofs.pg_intent as pg_intent
pub use Rattle.pg_cells.proofs.pg_msg as pg_msg
pub use Rattle.pg_cells.proofs.pg_names as pg_names
pub use Rattle.pg_cells.proofs.pg_replica as pg_replica
pub use Rattle.pg_cells.proofs.pg_store as pg_store
pub use Rattle.pg_cells.proofs.pg_pieces as pg_pieces
pub use Rattle.pg_cells.proofs as pg_cells
pub use Rattle.pg_intentions.proofs.pg_graph as pg_graph
pub use Rattle.pg_intentions.proofs as pg_intentions
pub use Rattle.pg_checks.proofs as pg_checks
