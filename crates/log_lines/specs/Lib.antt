pub mod Rows
pub mod Lines
pub mod Order
pub mod Text
pub mod Fitting
