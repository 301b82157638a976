pub mod Escapes
pub mod InRow
pub mod Judged
pub mod References
pub mod TimeLaws
