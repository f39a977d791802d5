pub mod Tasks
pub mod Runs
pub mod Programs
pub mod Carried
pub mod Counted
pub mod Places
pub mod Lengths
pub mod Faults
