mod Off
mod Called
mod Rooted
mod Stamped
