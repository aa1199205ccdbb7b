pub mod LeadingLemmas
pub mod LineLemmas
pub mod WrittenLemmas
