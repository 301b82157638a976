pub mod Views
pub mod Marks
pub mod Tables
pub mod Laws
pub mod Reaching
pub mod Processes
pub mod Counting
