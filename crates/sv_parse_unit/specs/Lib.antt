pub mod First
pub mod Views
pub mod Elements
pub mod After
pub mod Files
