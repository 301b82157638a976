pub mod Delays
pub mod News
pub mod Variables
