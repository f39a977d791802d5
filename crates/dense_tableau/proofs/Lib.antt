pub mod Quotients
pub mod Entries
pub mod Flat
pub mod Parts
pub mod Units
pub mod Listed
pub mod Written
