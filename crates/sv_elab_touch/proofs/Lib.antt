pub mod TouchedLaws
pub mod StepLaws
pub mod OutputLaws
pub mod QuietLaws
