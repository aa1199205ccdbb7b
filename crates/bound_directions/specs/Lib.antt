pub mod Directions
