pub mod Words
pub mod Pairs
pub mod Places
pub mod Meanings
mod Passing
pub mod Columns
mod Walks
mod Firsts
