pub mod Adding
pub mod Cuts
pub mod BoxSteps
pub mod Targets
