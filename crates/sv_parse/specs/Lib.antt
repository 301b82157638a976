pub mod Outcome
pub mod Tells
pub mod Parts
