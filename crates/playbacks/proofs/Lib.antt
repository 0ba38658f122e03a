pub mod Told
pub mod Played
