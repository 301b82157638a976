pub mod AddedLaws
pub mod VariableLaws
pub mod ArgumentLaws
pub mod BlockLaws
pub mod AloneLaws
pub mod PortLaws
