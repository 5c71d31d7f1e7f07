pub mod Answering
pub mod Asking
pub mod Bytes
pub mod Digits
pub mod Lines
pub mod Shown
