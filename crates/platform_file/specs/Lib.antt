pub mod Platform
pub mod Ticks
pub mod Documents
pub mod Places
pub mod Reading
pub mod Sections
pub mod FaultTexts
pub mod Wordings
