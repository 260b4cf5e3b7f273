pub mod Edge
pub mod Header
pub mod Code
pub mod Calls
