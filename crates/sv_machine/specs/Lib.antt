-- how the fields of a machine stand for a configuration: not needed to know what a run is
pub mod Log
pub mod Waits
pub mod Machine
pub mod Wakes
pub mod Steps
pub mod Forks
pub mod Starts
pub mod Strobes
pub mod Opening
