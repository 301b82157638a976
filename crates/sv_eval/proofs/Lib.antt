pub mod Contexts
pub mod ElementLaws
pub mod PrintLaws
pub mod SelectLaws
pub mod TextLaws
pub mod VectorLaws
