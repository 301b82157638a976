pub mod Adding
pub mod Parts
pub mod Files
pub mod Steps
