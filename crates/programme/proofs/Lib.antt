mod Decimals
mod Fronts
mod Slashes
pub mod Marked
pub mod Values
