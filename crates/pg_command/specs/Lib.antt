pub mod Program
pub mod Slots
pub mod Verb
pub mod Words
