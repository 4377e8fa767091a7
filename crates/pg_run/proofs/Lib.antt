pub mod Lists
pub mod Found
pub mod Bags
pub mod Frame
pub mod Removals
pub mod Event
pub mod QuietAnswers
pub mod Makes
pub mod Knowing
pub mod Gone
pub mod Striking
pub mod Bringing
pub mod Coming
pub mod Pigeons
pub mod StillRules
mod Rows
pub mod OwedOrder
pub mod Zips
pub mod OwedCells
pub mod Requests
pub mod Walks
pub mod TransferWays
pub mod Transferring
pub mod Tails
pub mod TailsOfCalls
pub mod LastWalks
pub mod Ticks
pub mod Holders
mod SendsLeaving
pub mod SendsBodies
pub mod Sends
pub mod SendsLosses
pub mod SendsCalls
pub mod Still
pub mod Late
pub mod Transfers
pub mod Ticked
pub use Rattle.pg_base.proofs as pg_base
pub use Rattle.pg_path.proofs as pg_path
pub use Rattle.pg_register.proofs as pg_register
pub use Rattle.pg_entries.proofs as pg_entries
pub use Rattle.pg_edges.proofs as pg_edges
pub use Rattle.pg_server.proofs.pg_pieces.pg_intent as pg_intent
pub use Rattle.pg_server.proofs.pg_pieces.pg_names as pg_names
pub use Rattle.pg_content.proofs as pg_content
pub use Rattle.pg_delta.proofs as pg_delta
pub use Rattle.pg_announced.proofs as pg_announced
pub use Rattle.theory_bodies.proofs as theory_bodies
pub use Rattle.theory_flood.proofs as theory_flood
pub use Rattle.pg_server.proofs.pg_pieces.pg_replica as pg_replica
pub use Rattle.pg_server.proofs.pg_pieces.pg_msg as pg_msg
pub use Rattle.pg_server.proofs.pg_pieces.pg_house as pg_house
pub use Rattle.pg_server.proofs.pg_pieces.pg_store as pg_store
pub use Rattle.pg_server.proofs.pg_pieces as pg_pieces
pub use Rattle.pg_server.proofs.pg_cells as pg_cells
pub use Rattle.pg_server.proofs.pg_graph as pg_graph
pub use Rattle.pg_server.proofs.pg_intentions as pg_intentions
pub use Rattle.theory_flood_pieces.proofs as theory_flood_pieces
pub use Rattle.pg_server.proofs.pg_checks as pg_checks
pub use Rattle.pg_server.proofs.pg_calls as pg_calls
