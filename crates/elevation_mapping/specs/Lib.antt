pub mod Places
pub mod MappingSizes
pub mod SineSizes
