-- The rest is to be read after the bytes so far, and what is before its `]` is ahead.
use Rattle.std.proofs.Common.{◌≡◌, length}
use Rattle.glob_rules.specs.Classes.{before_close}
use Rattle.glob_rules.specs.Readings.{reading_from, reading_start}
use Rattle.glob_rules.proofs.reading.Reading.of.Given as goal

abbrev pub invariant-loop-rest : goal.invariant-loop-rest
invariant-loop-rest g l = record {
  so_far : reading_from l.reading l.rest ≡ reading_from (reading_start l.path) l.text;
  ahead : l.ahead ≡ before_close l.rest;
}

abbrev pub decreases-loop-rest : goal.decreases-loop-rest
decreases-loop-rest g l = length l.rest
