pub mod Images
pub mod Asking
pub mod Counts
pub mod Handing
pub mod Finding
