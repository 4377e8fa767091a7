mod Forgotten
mod Runs
