pub mod Listings
pub mod Totals
pub mod Cells
pub mod LookUps
pub mod Weights
pub mod Prices
pub mod EvenPrices
pub mod Exchanges
