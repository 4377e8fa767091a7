pub mod Local
pub mod Owing
pub use Rattle.pg_calls.specs.pg_pieces as pg_pieces
pub use Rattle.pg_calls.specs.pg_cells as pg_cells
pub use Rattle.pg_calls.specs.pg_graph as pg_graph
pub use Rattle.pg_calls.specs.pg_repair as pg_repair
pub use Rattle.pg_calls.specs.pg_intentions as pg_intentions
pub use Rattle.pg_transfer.specs as pg_transfer
pub use Rattle.pg_calls.specs.pg_checks as pg_checks
pub use Rattle.pg_calls.specs as pg_calls
