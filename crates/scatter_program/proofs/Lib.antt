pub mod Flows
pub mod LookUps
pub mod Weights
pub mod Supplied
pub mod Feasible
pub mod Bounded
pub mod Rates
pub mod SteadyPoints
