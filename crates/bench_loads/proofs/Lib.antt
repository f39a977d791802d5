pub mod Pushes
pub mod Transfers
