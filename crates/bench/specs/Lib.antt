pub mod Carriers
pub mod Held
pub mod State
pub mod Words
