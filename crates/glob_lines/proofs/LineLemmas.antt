-- The lines and records of a stream: where they are split, which match, and what copying them writes.
pub mod CopiedRecords
pub mod FilteredLines
pub mod Filtering
pub mod FirstPlaces
pub mod KeptLines
pub mod KnownMoves
pub mod LineSplits
pub mod MatchingLines
pub mod Passing
