mod Same
mod Parts
mod Beside
