pub mod Ring
pub mod Floor
pub mod Round
pub mod Congruence
pub mod Turns
pub mod Bezout
pub mod Products
pub mod Machine
