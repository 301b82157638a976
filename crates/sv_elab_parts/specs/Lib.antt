pub mod Adding
