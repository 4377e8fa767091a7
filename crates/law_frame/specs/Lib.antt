pub mod Askers
pub use Rattle.pg_run.specs as pg_run
