pub mod Orders
pub mod OrderLaws
pub mod Middles
pub mod Bounds
pub mod Faults
