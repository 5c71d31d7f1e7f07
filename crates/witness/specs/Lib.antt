pub mod Sill
