-- ---- what is left of calls
pub mod Calls
-- ---- what a process has still to run
pub mod Frames
-- ---- what a step does
pub mod Effects
