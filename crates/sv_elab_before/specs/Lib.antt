pub mod Objects
pub mod Scopes
pub mod Befores
pub mod Supers
pub mod Properties
pub mod Stands
-- passed on to the crates above
pub use Rattle.sv_elab_head.specs.Heads
