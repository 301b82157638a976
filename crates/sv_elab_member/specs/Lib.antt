pub mod Within
pub mod Putting
pub mod Statics
pub mod Methods
pub mod Flat
pub mod Stands
pub mod Parts
