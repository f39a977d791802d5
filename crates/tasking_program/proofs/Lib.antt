pub mod Weights
pub mod Feasible
pub mod Bounded
pub mod Rates
pub mod SteadyPoints
pub mod LookUps
