mod ChangeLaws
mod EndLaws
mod LoopLaws
mod NeedLaws
mod PlaceLaws
mod RepeatLaws
mod RoundLaws
mod RoundsLaws
pub mod AloneLaws
pub mod StartLaws
pub mod UnitLaws
