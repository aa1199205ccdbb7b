pub mod DirectionLemmas
pub mod FormLemmas
pub mod SettingsLemmas
pub mod KeyLemmas
pub mod OrderLemmas
pub mod NameLemmas
pub mod TreeLemmas
pub mod OnlyLemmas
