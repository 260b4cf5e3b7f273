pub mod Answer
pub mod Message
pub mod Code
pub mod Sentences
pub mod Header
