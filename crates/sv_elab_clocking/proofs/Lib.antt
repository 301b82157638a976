mod BesideLaws
mod BlockLaws
mod NameLaws
mod SampleLaws
mod SignalLaws
mod SkewLaws
