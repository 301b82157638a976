pub mod Calling
pub mod Forms
pub mod Tasks
