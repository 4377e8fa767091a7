pub mod Start
pub mod Wishes
pub mod Value
pub mod Seen
pub mod Seekers
pub mod Store
pub mod Births
pub mod Servers
pub mod Links
pub mod Beginning
pub mod Cells
pub mod Together
pub mod Views
pub use Rattle.pg_house.specs as pg_house
pub use Rattle.pg_intent.specs as pg_intent
pub use Rattle.pg_names.specs as pg_names
pub use Rattle.pg_replica.specs as pg_replica
