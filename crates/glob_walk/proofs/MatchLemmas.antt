-- Matches: adjacent `**` folded into one, and looser rules.
pub mod Folded
pub mod Loosening
