pub mod Circle
pub mod Divisors
pub mod Euclid
pub mod Products
