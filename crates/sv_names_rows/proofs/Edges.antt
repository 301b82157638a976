-- Texts at the edges of the forms and the rules: what a run shows, or the first rule that is broken.
mod Refusals
mod Runs
