pub mod Bytes
pub mod Flash
pub mod Applied
pub mod Raised
