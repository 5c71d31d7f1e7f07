pub mod Fields
pub mod Writing
pub mod Answers
pub mod Meaning
pub mod Hearing
pub mod Listed
pub mod Aired
