pub mod TurnSizes
pub mod RoundSizes
