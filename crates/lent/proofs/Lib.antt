pub mod Words
pub mod Rests
pub mod Inverse
pub mod Own
pub mod Canonical
