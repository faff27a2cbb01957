-- Definitions that only private contracts cite.
pub mod Automata
pub mod Brackets
pub mod CharMasks
pub mod Classes
pub mod Compiled
pub mod Ends
pub mod Needles
pub mod Parts
pub mod Positions
pub mod Prefixes
pub mod Stepping
pub mod TextTable
