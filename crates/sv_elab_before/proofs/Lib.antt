pub mod ObjectLaws
pub mod SuperLaws
pub mod PropertyLaws
pub mod StandLaws
