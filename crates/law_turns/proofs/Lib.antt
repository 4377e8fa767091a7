mod Aims
mod Shapes
mod Sorting
mod EachKind
mod Whole
mod Firsts
pub mod Targets
pub mod Told
