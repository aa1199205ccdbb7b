pub mod SelectionLemmas
pub mod KeptLemmas
