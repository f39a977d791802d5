pub mod Choices
pub mod Columns
pub mod Matchings
pub mod Parts
pub mod Searches
pub mod Squares
pub mod Sums
pub mod Takings
