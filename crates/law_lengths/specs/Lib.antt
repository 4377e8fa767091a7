pub mod Packets
pub mod Laws
pub use Rattle.law_spelled.specs as law_spelled
