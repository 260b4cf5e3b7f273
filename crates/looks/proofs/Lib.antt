pub mod Images
pub mod Transfers
pub mod Listing
pub mod Looking
pub mod Looked
