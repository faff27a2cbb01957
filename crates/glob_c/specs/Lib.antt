pub mod Answers
pub mod Escaped
pub mod Matches
pub mod Refusals
pub mod Sessions
pub mod Slots
pub mod WalkSlots
