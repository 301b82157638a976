pub mod Driven
pub mod Making
