pub mod Held
pub mod Decides
pub mod Words
pub mod Stations
pub mod Shows
pub mod Hearings
pub mod Noise
