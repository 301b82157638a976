-- Whole programs: what a run of the flat design shows, or the first rule that is broken.
mod Refusals
mod Objects
mod Modules
