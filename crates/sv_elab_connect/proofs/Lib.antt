pub mod GivingLaws
pub mod LinkLaws
pub mod FitLaws
pub mod ObjectLaws
