pub mod Drafted
pub mod Placed
pub mod Rows
