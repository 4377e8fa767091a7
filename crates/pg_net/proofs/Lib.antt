pub mod Given
pub mod Noted
