pub mod Blocks
pub mod Making
pub mod Names
pub mod Signals
pub mod Skews
