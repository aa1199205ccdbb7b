pub mod Fields
pub mod TextLines
pub mod NavText
pub mod ObsText
pub mod SettingsText
