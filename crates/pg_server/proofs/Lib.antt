mod Unacknowledged
mod FirstIntent
mod FirstOwed
mod Results
pub use Rattle.pg_calls.proofs.pg_pieces as pg_pieces
pub use Rattle.pg_calls.proofs.pg_cells as pg_cells
pub use Rattle.pg_calls.proofs.pg_graph as pg_graph
pub use Rattle.pg_calls.proofs.pg_intentions as pg_intentions
pub use Rattle.pg_calls.proofs.pg_checks as pg_checks
pub use Rattle.pg_calls.proofs as pg_calls
