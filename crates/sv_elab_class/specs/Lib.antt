pub mod Heads
pub mod Infos
pub mod Lists
pub mod Rules
