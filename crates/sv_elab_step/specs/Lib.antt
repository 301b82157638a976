pub mod Before
pub mod TypeNames
