pub mod Sizes
pub mod Faults
pub mod Forms
pub mod Keys
pub mod Names
pub mod Texts
pub mod Reading
pub mod Scopes
