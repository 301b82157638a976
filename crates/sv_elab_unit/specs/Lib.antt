pub mod Definitions
pub mod Ports
pub mod Params
pub mod Roots
pub mod Units
