pub mod Characters
pub mod Pieces
pub mod Text
