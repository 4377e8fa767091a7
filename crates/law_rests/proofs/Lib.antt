mod Under
mod Resting
