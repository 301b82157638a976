pub mod Begins
pub mod Blocks
pub mod Fronts
pub mod Statements
