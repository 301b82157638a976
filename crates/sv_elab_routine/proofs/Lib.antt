pub mod BodyLaws
pub mod MadeLaws
