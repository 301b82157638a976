pub mod ForLaws
pub mod ListLaws
pub mod Sizes
pub mod StarLaws
