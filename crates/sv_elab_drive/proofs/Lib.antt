pub mod DrivenLaws
pub mod ProcessLaws
pub mod CountLaws
pub mod WatchedLaws
