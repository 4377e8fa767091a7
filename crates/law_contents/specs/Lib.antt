pub mod Together
pub use Rattle.law_order.specs as law_order
