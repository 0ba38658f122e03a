pub mod Gearing
pub mod Standing
pub mod Ways
pub mod Widths
pub mod Turns
pub mod Bursting
pub mod Steady
