mod Steps
mod Ending
mod Filled
pub mod Needs
pub mod Steady
pub mod Standing
pub mod Sought
pub mod Patched
pub mod Leaves
pub mod Idle
pub mod Invited
pub use Rattle.pg_graph.proofs as pg_graph
mod DirtyFills
mod Marked
