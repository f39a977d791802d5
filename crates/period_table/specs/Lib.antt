pub mod Lanes
pub mod TableSchedules
pub mod Tables
pub mod Best
pub mod BusySlots
pub mod Counts
pub mod Unrolled
pub mod Cuts
