pub mod Playing
pub mod PlayingLaws
pub mod Columns
