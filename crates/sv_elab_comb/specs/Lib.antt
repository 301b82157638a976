pub mod Standing
pub mod Spans
pub mod Combs
