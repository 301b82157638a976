mod PlaceLaws
mod NumberLaws
pub mod TreeLaws
mod LivingLaws
pub mod FinishLaws
pub mod DescentLaws
pub mod ConfigLaws
