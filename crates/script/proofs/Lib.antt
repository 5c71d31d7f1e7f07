mod Hex
mod Numbers
pub mod Shown
