pub mod Offsets
pub mod CircleRoots
pub mod TurnWidths
pub mod TurnExists
