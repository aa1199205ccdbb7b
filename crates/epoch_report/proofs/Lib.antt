pub mod DigitLemmas
pub mod SignLemmas
