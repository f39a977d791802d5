pub mod TableKeys
pub mod ItemReading
pub mod Growing
pub mod Units
