pub mod Directions
pub mod OrbitSizes
