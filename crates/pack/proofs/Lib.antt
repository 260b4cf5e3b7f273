pub mod Laying
pub mod Numbering
pub mod Fields
