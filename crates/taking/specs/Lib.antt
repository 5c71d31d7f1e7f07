pub mod Pieces
pub mod Taking
pub mod Events
pub mod Segments
pub mod Views
pub mod Rows
pub mod Reading
pub mod Bytes
