pub mod FirstLines
pub mod Digits
pub mod Words
