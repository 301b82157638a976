-- Texts that differ in a word or two from others.
mod Arrays
mod Declarations
mod Members
mod Classes
mod Calls
mod Clockings
mod Tasks
mod Drivers
mod Values
