pub mod Chunks
pub mod Made
pub mod Table
