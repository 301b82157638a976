pub mod ChoiceLemmas
pub mod DigitLemmas
