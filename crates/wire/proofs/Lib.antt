pub mod Parsing
pub mod Laying
pub mod Sentences
pub mod Header
