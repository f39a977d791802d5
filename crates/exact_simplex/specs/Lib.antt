pub mod Bland
pub mod Optima
pub mod Answers
