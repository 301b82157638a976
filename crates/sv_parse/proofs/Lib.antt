pub mod Loops
pub mod PartLaws
pub mod ExprParts
pub mod TypeParts
pub mod StmtParts
pub mod UnitParts
