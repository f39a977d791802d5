pub mod Numbers
pub mod Loads
pub mod Routings
pub mod Solutions
