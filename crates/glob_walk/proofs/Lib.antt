pub mod Ascending
pub mod CallerLemmas
pub mod ComponentLemmas
mod Premises
pub mod GoalLemmas
pub mod CostLemmas
pub mod ListingLemmas
pub mod MatchLemmas
pub mod WalkLemmas
