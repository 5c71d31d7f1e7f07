pub mod Faults
pub mod Numerals
pub mod Depth
pub mod Rows
pub mod Times
pub mod Lines
pub mod Labels
