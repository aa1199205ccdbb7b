pub mod CutLemmas
pub mod LiveLemmas
pub mod GroupLemmas
pub mod FoldingLemmas
pub mod MovedLemmas
pub mod BoxLemmas
