mod AmountLaws
mod BesideLaws
mod MakingLaws
mod OpeningLaws
mod TargetLaws
mod WholeLaws
