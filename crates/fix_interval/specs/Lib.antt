pub mod Factors
pub mod Grains
pub mod Places
