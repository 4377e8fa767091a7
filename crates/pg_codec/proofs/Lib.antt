pub mod Binding
pub mod Numbers
pub mod Ids
