pub mod Counts
pub mod NumberFields
pub mod Parts
pub mod Reading
pub mod Signing
pub mod Units
