pub mod Reading
pub mod Turns
pub mod Joining
