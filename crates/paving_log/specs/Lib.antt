pub mod Renewing
pub mod EventValues
pub mod Values
pub mod Faults
pub mod RowsText
pub mod Taking
pub mod Answers
pub mod CoverBoxes
