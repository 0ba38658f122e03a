pub mod Numbers
pub mod Layout
pub mod Contents
pub mod Walking
pub mod Refusals
pub mod Laws
