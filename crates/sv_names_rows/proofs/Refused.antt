-- Texts that break a rule, or come close to it.
mod Declarations
mod Members
mod Classes
mod Calls
mod Clockings
mod Tasks
mod Drivers
mod Values
