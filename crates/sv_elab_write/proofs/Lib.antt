pub mod AssignLaws
pub mod NewLaws
pub mod TargetLaws
pub mod VariableLaws
