pub mod Layering
pub mod LayeringLaws
pub mod Carrying
pub mod Bursts
pub mod BurstLaws
pub mod Gathering
