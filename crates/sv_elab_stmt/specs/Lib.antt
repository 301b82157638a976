pub mod Delays
pub mod Lists
pub mod Stars
