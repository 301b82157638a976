-- Types, constants and results that depend on one another: where a cycle is told, and what is no cycle.
mod Members
mod Constants
mod Runs
