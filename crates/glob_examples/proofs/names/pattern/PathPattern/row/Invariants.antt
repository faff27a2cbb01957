use Rattle.std.proofs.Common.{take}
use Rattle.glob_examples.specs.NameTable.{IsRow}
use Rattle.glob_examples.proofs.names.pattern.PathPattern.row.Given as goal

abbrev pub invariant-loop-component : goal.invariant-loop-component
invariant-loop-component g l = IsRow (take l.component-index l.component-items) l.name l.row.items
