pub mod Labels
pub mod Drafting
pub mod Frames
pub mod Holding
pub mod Worked
pub mod Laws
