pub mod Types
pub mod Header
pub mod Epochs
pub mod Files
pub mod Reading
pub mod Facts
pub mod Whole
