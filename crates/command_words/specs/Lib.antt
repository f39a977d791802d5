pub mod Words
pub mod Meanings
