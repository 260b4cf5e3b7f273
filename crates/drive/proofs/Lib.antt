pub mod Running
pub mod Telling
