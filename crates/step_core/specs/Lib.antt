pub mod Wirings
pub mod Tasks
pub mod Histories
pub mod States
pub mod Steps
pub mod Paced
