pub mod Ordering
pub mod Closing
pub mod Mending
pub mod Outcomes
