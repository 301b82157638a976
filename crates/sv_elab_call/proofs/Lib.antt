pub mod BesideLaws
pub mod CallLaws
pub mod CastLaws
pub mod PassingLaws
pub mod RowLaws
