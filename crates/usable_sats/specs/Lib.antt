pub mod Usability
pub mod Measured
pub mod Judgements
pub mod Answers
