pub mod Added
pub mod Alone
pub mod Given
pub mod Ports
pub mod Units
