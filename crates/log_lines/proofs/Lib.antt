pub mod OrderLemmas
pub mod SpellingLemmas
pub mod SureLemmas
pub mod ValueLemmas
pub mod SatelliteLemmas
pub mod FittingLemmas
