mod Beginning
pub mod Computing
mod Driving
pub mod FoundPaths
mod Gathering
pub mod KeptTexts
mod WalkClauses
pub use Rattle.glob_lines.proofs.CallerLemmas as LineLemmas
pub use Rattle.glob_pattern.proofs.CallerLemmas as PatternLemmas
pub use Rattle.glob_walk.proofs.CallerLemmas as WalkLemmas
