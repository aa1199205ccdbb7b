pub mod SquareLemmas
pub mod EndLemmas
pub mod ResidualExists
pub mod ResidualLemmas
