pub mod Entry
pub mod EntriesInside
pub mod Names
pub mod Shown
pub mod Firsts
pub mod Slots
