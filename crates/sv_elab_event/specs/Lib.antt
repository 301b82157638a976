pub mod Occasions
