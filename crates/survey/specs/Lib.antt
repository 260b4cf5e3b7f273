pub mod Survey
pub mod Pass
