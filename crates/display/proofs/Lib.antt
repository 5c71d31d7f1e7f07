pub mod Tags
pub mod Steps
pub mod Rows
