pub mod Sums
pub mod Programmes
pub mod Duality
pub mod Certificates
pub mod Tableaux
pub mod Starts
pub mod Sizes
pub mod Pivots
