pub mod Narrowing
pub mod Existence
