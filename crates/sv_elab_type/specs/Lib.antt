pub mod Items
pub mod Meaning
pub mod Parameters
pub mod Shapes
pub mod Waiting
pub mod Written
