pub mod BehindLaws
pub mod MetLaws
pub mod NameLaws
pub mod TargetLaws
