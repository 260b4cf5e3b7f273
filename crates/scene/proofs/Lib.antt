pub mod Stepping
pub mod Messages
