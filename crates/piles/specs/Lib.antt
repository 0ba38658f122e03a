pub mod Piles
pub mod Reads
pub mod Steady
pub mod FirstFaults
pub mod Deep
pub mod Worked
