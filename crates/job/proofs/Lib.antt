pub mod Entering
pub mod Acting
pub mod Advancing
pub mod Loading
pub mod Blanks
