pub mod Counts
pub mod Centres
pub mod Nearing
pub mod Firsts
pub mod Picking
