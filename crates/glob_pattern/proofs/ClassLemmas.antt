-- Classes of characters, and the places of their masks in rows.
pub mod Counting
pub mod Folding
pub mod Intervals
pub mod Ranks
pub mod Rows
pub mod Separating
