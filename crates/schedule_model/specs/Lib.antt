pub mod Operations
pub mod Validity
pub mod Throughput
pub mod Breaches
pub mod Tallies
pub mod Texts
pub mod BreachTexts
