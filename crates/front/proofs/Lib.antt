pub mod Digits
pub mod Copied
