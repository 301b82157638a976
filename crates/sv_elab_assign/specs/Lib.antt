pub mod Amounts
pub mod Forms
pub mod Making
pub mod Openings
pub mod Places
pub mod Wholes
