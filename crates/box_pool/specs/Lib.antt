pub mod Chains
pub mod Hulls
pub mod Lists
pub mod Masks
pub mod Ownership
pub mod Places
pub mod Blocks
