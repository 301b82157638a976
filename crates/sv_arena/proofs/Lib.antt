pub mod ChunkLaws
pub mod PlaceLaws
pub mod TableLaws
pub mod MadeLaws
