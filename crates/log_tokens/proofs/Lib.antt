pub mod WordLemmas
pub mod NumberLemmas
pub mod TimeLemmas
pub mod JoinedLemmas
pub mod DigitLemmas
pub mod LeadingLemmas
pub mod TextLemmas
