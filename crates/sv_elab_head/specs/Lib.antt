pub mod Heads
pub mod Formals
pub mod Headings
pub mod Standing
