-- The variants of the library's enums, listed under the name of each enum. For callers and their proofs, as `Types` is.
-- A new public enum of the library is added here.
pub use Rattle.glob_lines.specs.declared.fault.LineFault.TheVariants as LineFault
pub use Rattle.glob_pattern.specs.declared.error.PatternRefusal.TheVariants as PatternRefusal
pub use Rattle.glob_pattern.specs.declared.matcher.Shape.TheVariants as Shape
pub use Rattle.glob_tree.specs.declared.kind.Kind.TheVariants as Kind
pub use Rattle.glob_tree.specs.declared.refusal.TreeRefusal.TheVariants as TreeRefusal
pub use Rattle.glob_tree.specs.declared.tree.ListError.TheVariants as ListError
pub use Rattle.glob_tree.specs.declared.tree.Look.TheVariants as Look
pub use Rattle.glob_walk.specs.declared.error.GlobCause.TheVariants as GlobCause
pub use Rattle.glob_walk.specs.declared.machine.Answer.TheVariants as Answer
pub use Rattle.glob_walk.specs.declared.machine.Step.TheVariants as Step
pub use Rattle.glob_walk.specs.declared.ending.End.TheVariants as End
