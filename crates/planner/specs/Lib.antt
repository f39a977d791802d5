pub mod Prices
pub mod Scales
pub mod Solutions
pub mod Making
pub mod Plans
