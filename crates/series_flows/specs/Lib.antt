pub mod Programmes
pub mod Flows
pub mod Points
pub mod Amounts
