pub mod Choices
pub mod Concatenations
pub mod Times
