mod Told
mod Stepping
