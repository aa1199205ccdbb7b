pub mod SearchSizes
pub mod Residuals
