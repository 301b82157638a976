-- what the runs of built designs keep, and what their effects leave: not needed to know what a run is
pub mod Sound
pub mod After
