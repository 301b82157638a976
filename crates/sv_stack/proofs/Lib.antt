pub mod EndLemmas
pub mod FrameLemmas
pub mod PassLemmas
pub mod DepthLemmas
