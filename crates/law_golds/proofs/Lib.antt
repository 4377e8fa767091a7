pub mod Says
pub mod Received
pub mod Known
pub mod Kept
pub mod Own
pub mod Fine
pub mod Filling
pub mod Losing
pub mod Calling
pub mod Sending
pub mod Effects
pub mod Worlds
pub mod Runs
pub mod Flags
pub mod Named
pub mod Seen
pub mod SeenAfter
pub use Rattle.law_contents.proofs.law_order as law_order
pub use Rattle.law_contents.proofs as law_contents
pub use Rattle.law_births.proofs as law_births
