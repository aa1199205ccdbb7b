pub mod Views
pub mod Ranges
pub mod Squares
pub mod Sides
pub mod Hulls
