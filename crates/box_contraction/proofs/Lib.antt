pub mod EighthLemmas
pub mod FaceLemmas
pub mod RoundLemmas
pub mod FacesUnderway
pub mod RoundsUnderway
pub mod SomeUnderway
pub mod EndingExists
pub mod BoxLemmas
