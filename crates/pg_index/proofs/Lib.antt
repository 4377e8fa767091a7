pub mod Members
mod Searching
mod Sets
