pub mod Generator
pub mod MadeRecords
pub mod MadeCodes
pub mod MadeInput
pub mod PlaceFits
