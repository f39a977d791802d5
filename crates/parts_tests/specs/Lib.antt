pub mod HandOvers
pub mod Relays
