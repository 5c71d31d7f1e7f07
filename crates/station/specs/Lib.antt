pub mod Sending
pub mod Vars
