pub mod StandingLaws
pub mod ClassLaws
pub mod ReachedLaws
pub mod SpanLaws
pub mod OuterLaws
pub mod CombLaws
pub mod WatchingLaws
