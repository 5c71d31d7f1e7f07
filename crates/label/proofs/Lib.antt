pub mod Marks
pub mod Sounding
pub mod Tagging
