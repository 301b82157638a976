pub mod Known
pub mod Locals
pub mod Objects
