pub mod RootLemmas
pub mod RowLemmas
pub mod UsableLemmas
pub mod LineLemmas
pub mod RunLemmas
pub mod LogLemmas
