use Rattle.std.proofs.Common.{map}
use Rattle.glob_examples.specs.NameTable.{AreAligned, IsRow}
use Rattle.glob_examples.proofs.names.pattern.PathPattern.rows.Given as goal

abbrev pub invariant-loop-name : goal.invariant-loop-name
invariant-loop-name g l = AreAligned (λ name row. IsRow l.self name row.items) (map (λ name. name.now) l.yielded) l.rows.items
