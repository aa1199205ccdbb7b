pub mod ElementLemmas
pub mod JudgementLemmas
pub mod CodeLemmas
pub mod RecordLemmas
pub mod ChoiceLemmas
pub mod NearestLemmas
pub mod WalkLemmas
