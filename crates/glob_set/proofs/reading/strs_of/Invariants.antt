-- The texts so far are borrowed.
use Rattle.std.proofs.Common.{◌≡◌, map, take, string_bytes}
use Rattle.glob_set.proofs.reading.strs_of.Given as goal

abbrev pub invariant-loop-text : goal.invariant-loop-text
invariant-loop-text g l = map (λ t. t.now) l.strs.items ≡ map string_bytes (take l.text-index l.texts)
