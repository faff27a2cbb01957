-- The structs and enums of the library, for definitions elsewhere that are about their values.
pub use Rattle.glob_lines.specs.declared.fault.LineFault.{LineFault}
pub use Rattle.glob_pattern.specs.declared.error.PatternError.{PatternError}
pub use Rattle.glob_pattern.specs.declared.error.PatternRefusal.{PatternRefusal}
pub use Rattle.glob_pattern.specs.declared.matcher.Shape.{Shape}
pub use Rattle.glob_pattern.specs.declared.options.MatchOptions.{MatchOptions}
pub use Rattle.glob_tree.specs.declared.kind.Kind.{Kind}
pub use Rattle.glob_tree.specs.declared.refusal.TreeRefusal.{TreeRefusal}
pub use Rattle.glob_tree.specs.declared.tree.Entry.{Entry}
pub use Rattle.glob_tree.specs.declared.tree.ListError.{ListError}
pub use Rattle.glob_tree.specs.declared.tree.Look.{Look}
pub use Rattle.glob_walk.specs.declared.error.GlobCause.{GlobCause}
pub use Rattle.glob_walk.specs.declared.error.GlobError.{GlobError}
pub use Rattle.glob_walk.specs.declared.machine.Answer.{Answer}
pub use Rattle.glob_walk.specs.declared.machine.Step.{Step}
pub use Rattle.glob_walk.specs.declared.ending.End.{End}
pub use Rattle.glob.specs.declared.walk.Walk.{Walk}
