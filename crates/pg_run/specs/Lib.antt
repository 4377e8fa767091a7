pub mod Journal
pub mod Took
pub mod Asking
pub mod Carried
pub mod Asked
pub mod Passed
pub mod Run
pub mod State
pub mod Quiet
pub mod Graphs
pub mod Laws
pub mod Known
pub mod Histories
pub mod Births
pub mod Acknowledged
pub mod Intending
pub mod Golds
pub mod Leaving
pub mod Going
pub mod Ruled
pub mod Ticks
pub mod Bodies
pub mod Deltas
pub mod Came
pub mod Away
pub mod Grown
pub mod Views
pub mod Noted
pub use Rattle.pg_base.specs as pg_base
pub use Rattle.pg_patch.specs as pg_patch
pub use Rattle.pg_path.specs as pg_path
pub use Rattle.pg_register.specs as pg_register
pub use Rattle.pg_entries.specs as pg_entries
pub use Rattle.pg_edges.specs as pg_edges
pub use Rattle.pg_server.specs.pg_pieces.pg_intent as pg_intent
pub use Rattle.pg_server.specs.pg_pieces.pg_names as pg_names
pub use Rattle.pg_content.specs as pg_content
pub use Rattle.pg_delta.specs as pg_delta
pub use Rattle.pg_announced.specs as pg_announced
pub use Rattle.theory_bodies.specs as theory_bodies
pub use Rattle.theory_flood.specs as theory_flood
pub use Rattle.pg_server.specs.pg_pieces.pg_replica as pg_replica
pub use Rattle.pg_words.specs as pg_words
pub use Rattle.pg_server.specs.pg_pieces.pg_msg as pg_msg
pub use Rattle.pg_server.specs.pg_pieces.pg_call as pg_call
pub use Rattle.pg_server.specs.pg_checks.pg_lookup as pg_lookup
pub use Rattle.pg_event.specs as pg_event
pub use Rattle.pg_server.specs.pg_pieces.pg_house as pg_house
pub use Rattle.pg_server.specs.pg_pieces.pg_store as pg_store
pub use Rattle.pg_server.specs.pg_pieces as pg_pieces
pub use Rattle.pg_server.specs.pg_cells as pg_cells
pub use Rattle.pg_server.specs.pg_graph as pg_graph
pub use Rattle.pg_server.specs.pg_repair as pg_repair
pub use Rattle.pg_server.specs.pg_intentions as pg_intentions
pub use Rattle.theory_flood_pieces.specs as theory_flood_pieces
pub use Rattle.pg_server.specs.pg_checks as pg_checks
pub use Rattle.pg_server.specs.pg_calls as pg_calls
pub use Rattle.pg_server.specs as pg_server
