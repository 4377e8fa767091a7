pub mod First
pub mod Name
pub mod Path
pub mod Tested
