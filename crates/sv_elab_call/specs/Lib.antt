pub mod Casting
pub mod Forms
pub mod Passing
