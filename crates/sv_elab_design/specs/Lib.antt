pub mod Elaborating
