pub mod Shapes
pub mod TypeLaws
pub mod InitialLaws
pub mod DeclarationLaws
pub mod DimensionLaws
