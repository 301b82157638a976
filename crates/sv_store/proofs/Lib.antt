pub mod SlotLemmas
pub mod FirstLemmas
pub mod PartLaws
pub mod WriteLaws
