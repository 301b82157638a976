-- the law of the frame, for a design
pub mod Framed
