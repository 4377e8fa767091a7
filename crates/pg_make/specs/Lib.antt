pub mod Action
pub mod Draw
pub mod Event
pub mod Made
