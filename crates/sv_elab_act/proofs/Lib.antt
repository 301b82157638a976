pub mod ListLaws
pub mod Sizes
pub mod VariableLaws
