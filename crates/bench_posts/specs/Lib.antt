pub mod Posts
pub mod State
pub mod Words
