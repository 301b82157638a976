-- ---- which designs may be run so far
pub mod Built
-- ---- where a statement stands
pub mod Positions
-- ---- what a process waits for
pub mod Waits
-- ---- what an activation is made for
pub mod Entered
