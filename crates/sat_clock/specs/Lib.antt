pub mod ClockSizes
pub mod GravityRoots
