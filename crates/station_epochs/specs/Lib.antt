pub mod Stations
pub mod Search
