mod Same
mod Determined
