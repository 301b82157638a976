pub mod Objects
pub mod First
pub mod Forms
pub mod Overwrites
