pub mod Rows
pub mod Division
