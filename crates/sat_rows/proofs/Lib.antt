pub mod SpanLemmas
pub mod DelayLemmas
pub mod RowLemmas
pub mod PartLemmas
