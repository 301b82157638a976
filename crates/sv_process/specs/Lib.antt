-- ---- what statements do, by their parts
pub mod Parts
