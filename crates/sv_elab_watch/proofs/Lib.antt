pub mod ReadLaws
pub mod OutsideLaws
pub mod StatementLaws
pub mod InnerLaws
