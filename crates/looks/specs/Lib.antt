pub mod Surveys
pub mod Images
pub mod Seen
