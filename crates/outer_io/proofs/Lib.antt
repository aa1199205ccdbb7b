pub mod SlotLemmas
pub mod Appending
pub mod Moving
pub mod Covering
pub mod Finding
pub mod Marking
pub mod OwnNames
