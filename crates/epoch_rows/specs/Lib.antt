pub mod Grown
pub mod Renewed
pub mod EpochsLeft
pub mod Laws
pub mod Solved
pub mod Makers
pub mod Ready
