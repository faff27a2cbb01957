pub mod Private
pub mod Types
pub mod Variants
pub use Rattle.glob_lines.specs.LineFaults
pub use Rattle.glob_lines.specs.Lines
pub use Rattle.glob_lines.specs.Watch
pub use Rattle.glob_pattern.specs.Computing
pub use Rattle.glob_pattern.specs.Escaping
pub use Rattle.glob_pattern.specs.Grammar
pub use Rattle.glob_pattern.specs.Laws
pub use Rattle.glob_pattern.specs.Matching
pub use Rattle.glob_pattern.specs.Words as PatternWords
pub use Rattle.glob_text.specs.Characters
pub use Rattle.glob_text.specs.Pieces
pub use Rattle.glob_text.specs.Text
pub use Rattle.glob_tree.specs.Answers
pub use Rattle.glob_tree.specs.Content
pub use Rattle.glob_tree.specs.Looks
pub use Rattle.glob_tree.specs.Memory
pub use Rattle.glob_tree.specs.Paths
pub use Rattle.glob_tree.specs.Words as TreeWords
pub use Rattle.glob_walk.specs.Answers as WalkAnswers
pub use Rattle.glob_walk.specs.Components
pub use Rattle.glob_walk.specs.Driven
pub use Rattle.glob_walk.specs.GlobCauses
pub use Rattle.glob_walk.specs.GlobErrors
pub use Rattle.glob_walk.specs.Goal
pub use Rattle.glob_walk.specs.Iterating
pub use Rattle.glob_walk.specs.Laws as WalkLaws
pub use Rattle.glob_walk.specs.Machines
pub use Rattle.glob_walk.specs.Questions
pub use Rattle.glob_walk.specs.Walks
