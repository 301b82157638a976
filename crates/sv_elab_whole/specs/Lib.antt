pub mod Scales
pub mod Walks
pub mod Collected
pub mod Numbering
