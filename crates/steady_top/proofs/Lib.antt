pub mod Audited
pub mod FewPeriods
pub mod Responses
pub mod Works
pub mod Examples
pub mod Rehearsed
