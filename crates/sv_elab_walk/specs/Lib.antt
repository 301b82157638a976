pub mod Insts
pub mod Seeing
pub mod Givens
pub mod Grounds
pub mod Frames
