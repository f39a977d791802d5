pub mod Flows
pub mod Routes
pub mod Walks
pub mod Rounds
