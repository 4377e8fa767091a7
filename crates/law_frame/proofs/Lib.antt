pub mod Keeps
mod Along
mod Replicas
mod Children
pub mod Received
pub mod KeepsCalls
pub mod Called
pub mod Ended
pub mod Asked
pub use Rattle.pg_run.proofs as pg_run
