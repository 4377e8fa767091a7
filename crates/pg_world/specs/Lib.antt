pub mod Played
pub mod PlayedInside
pub mod Stands
pub mod EventList
pub mod EventListInside
pub mod Repeats
