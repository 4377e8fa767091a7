pub mod Intending
pub mod Seeks
pub mod Inviting
pub mod Patches
pub mod Fills
pub mod Confirms
pub mod Beginning
pub mod Requests
pub mod Needed
pub use Rattle.pg_graph.specs as pg_graph
pub use Rattle.pg_repair.specs as pg_repair
