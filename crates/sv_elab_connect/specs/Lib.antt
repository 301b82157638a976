pub mod Links
pub mod Fits
pub mod Nets
