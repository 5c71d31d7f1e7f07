pub mod Check
pub mod Register
