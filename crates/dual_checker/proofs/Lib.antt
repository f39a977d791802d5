pub mod Priced
pub mod Parts
pub mod Exact
