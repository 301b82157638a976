mod GuardLaws
mod HeadLaws
mod LineLaws
mod SlotLaws
mod ListLaws
mod GroupLaws
mod OverrideLaws
