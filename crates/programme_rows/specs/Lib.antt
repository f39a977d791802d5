pub mod Listings
pub mod Cells
pub mod LookUps
