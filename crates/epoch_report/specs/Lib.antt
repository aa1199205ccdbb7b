pub mod Metres
pub mod ReportLines
pub mod Reports
