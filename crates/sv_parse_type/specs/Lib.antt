pub mod Applied
pub mod Begins
