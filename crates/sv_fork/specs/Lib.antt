-- ---- the processes of a run
pub mod Tree
-- ---- where the living ones are found
pub mod Living
