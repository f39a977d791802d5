pub mod Totals
pub mod Counting
mod Tasks
pub mod Histories
mod Allowed
mod Ports
mod Standing
mod Guards
mod Refusals
mod Onward
mod Lengths
