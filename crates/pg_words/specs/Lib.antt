pub mod ChoiceWord
pub mod FileWord
pub mod HexWord
pub mod ListWord
pub mod PlaceWords
pub mod StampWord
pub mod TextWord
pub mod Words
