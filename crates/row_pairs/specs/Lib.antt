pub mod FormValues
pub mod Leasts
pub mod KeptForms
pub mod PairsSoFar
