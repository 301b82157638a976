pub mod Behind
pub mod Met
