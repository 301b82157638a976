-- Texts of the rules, each with the number of the rule in question: the first rule that is broken, and where, or what a run shows.
mod Declarations
mod Expressions
mod Statements
mod Classes
mod Others
