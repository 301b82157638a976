-- ---- what is read
pub mod Objects
pub mod Scoped
-- ---- who is tried, and who is woken
pub mod Watchers
pub mod Wakes
pub mod Told
-- ---- the whole
pub mod Sensed
