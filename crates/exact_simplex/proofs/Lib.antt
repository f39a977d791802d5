pub mod Points
pub mod Choices
pub mod Ends
