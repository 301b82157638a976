pub mod Formals
pub mod Results
pub mod Bodies
