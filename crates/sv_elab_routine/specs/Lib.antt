pub mod Bodies
pub mod Made
