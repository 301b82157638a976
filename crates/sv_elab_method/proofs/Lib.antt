pub mod ItemLaws
pub mod MessageLaws
pub mod MethodLaws
