pub mod LiveValues
pub mod Groups
pub mod Folding
