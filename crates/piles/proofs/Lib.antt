pub mod Carried
pub mod Advancing
pub mod Reading
pub mod Steady
pub mod FirstFaults
pub mod PileFaults
