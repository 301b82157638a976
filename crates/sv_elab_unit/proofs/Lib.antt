pub mod DefinitionLaws
pub mod UnitLaws
pub mod UsedLaws
pub mod RootLaws
pub mod ListLaws
