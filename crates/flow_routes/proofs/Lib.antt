pub mod Flows
pub mod Rounds
pub mod Walking
pub mod Turning
pub mod Laws
pub mod Outcomes
pub mod Chosen
