pub mod Kind
pub mod Key
pub mod Intent
pub mod Intents
pub mod IntentsInside
pub mod Target
