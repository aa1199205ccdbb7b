pub mod GrainLemmas
pub mod InsideLemmas
pub mod NearLemmas
pub mod ProductEnds
pub mod PlaceLemmas
