mod Short
mod Sent
mod Told
mod Linked
mod Begun
mod Keys
mod First
mod Harbingers
