pub mod Lists
pub mod Classes
pub mod Refusals
pub mod Words
pub mod Tags
pub mod Lawful
pub mod Label
pub mod Drafts
