pub mod Kept
pub mod Preferences
pub mod ChoiceLists
pub mod Slots
pub mod Places
