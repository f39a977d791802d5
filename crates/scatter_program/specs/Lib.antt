pub mod Columns
pub mod Rows
pub mod Programme
pub mod Counts
pub mod Points
