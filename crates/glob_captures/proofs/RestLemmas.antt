-- From which places the last tokens take the rest of a text, and where the piece of a token ends.
pub mod Ends
pub mod More
pub mod Pieces
pub mod Rows
pub mod Spans
