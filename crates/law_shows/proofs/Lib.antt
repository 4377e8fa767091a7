mod Counted
mod Shows
mod Told
