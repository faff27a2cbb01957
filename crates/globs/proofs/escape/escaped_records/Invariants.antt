-- The records so far and the records of the other texts are the records of all texts.
use Rattle.std.proofs.Common.{string_bytes}
use Rattle.globs.proofs.EscapeLemmas.{Continues}
use Rattle.globs.proofs.escape.escaped_records.Given as goal

abbrev pub invariant-loop-text : goal.invariant-loop-text
invariant-loop-text g l = Continues l.end l.texts l.text-index (string_bytes l.records)
