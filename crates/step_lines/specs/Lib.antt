pub mod Lines
pub mod Leading
pub mod Texts
pub mod OneSpelling
pub mod Reading
pub mod Steps
