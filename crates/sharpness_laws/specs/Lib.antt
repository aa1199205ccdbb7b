pub mod Clear
pub mod UsableRows
pub mod Left
