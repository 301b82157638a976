mod PuttingLaws
mod StaticLaws
mod FlatLaws
mod MethodLaws
mod PartLaws
