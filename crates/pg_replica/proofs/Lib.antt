pub mod Listed
mod Cells
pub mod Heads
pub mod Drawn
pub mod Growth
pub mod Order
pub mod Lists
pub mod Clean
pub mod Merging
mod Relisting
mod Putting
pub mod Ends
mod Takings
mod Refusals
mod InOrder
mod Redues
mod AllDue
mod Counting
pub mod Going
