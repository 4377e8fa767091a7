pub mod Stays
mod Old
pub mod News
pub mod InTime
pub mod Wanted
pub mod Pairs
pub mod Given
pub mod Wishing
pub mod Aiming
pub mod Over
pub mod Going
pub mod Entering
pub mod Entered
pub mod Wished
mod AtEnd
pub mod AllListed
pub mod Marked
mod Rising
pub mod Housed
pub mod Counted
pub use Rattle.pg_house.proofs as pg_house
pub use Rattle.pg_intent.proofs as pg_intent
pub use Rattle.pg_names.proofs as pg_names
pub use Rattle.pg_replica.proofs as pg_replica
