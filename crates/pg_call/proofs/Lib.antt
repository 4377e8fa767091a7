pub mod CallSpelling
pub mod CallTable
pub mod KindWords
pub mod RowWords
