pub mod Lines
pub mod Refusals
pub mod Printing
pub mod LineLaws
