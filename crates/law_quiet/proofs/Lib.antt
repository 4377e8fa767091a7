pub mod Across
pub mod Alike
pub mod Agreement
pub mod Facts
pub mod Standing
pub mod Trees
pub mod WhatIsListed
pub mod Servers
