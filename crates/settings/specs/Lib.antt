pub mod Settings
pub mod Kept
pub mod Refusals
pub mod Told
pub mod Tables
pub mod SettingLaws
