-- What is kept of the bytes so far.
use Rattle.std.proofs.Common.{◌≡◌, ◌≤◌, take}
use Rattle.std.specs.List.{fold}
use Rattle.glob_rules.specs.Lines.{Kept, next_kept, none_kept}
use Rattle.glob_rules.proofs.lines.kept_len.Given as goal

abbrev pub invariant-loop-place : goal.invariant-loop-place
invariant-loop-place l = record {
  within : l.kept ≤ l.place;
  so_far : ◌≡◌ {A = Kept} (record { seen = l.place; kept = l.kept; escaped = l.escaped }) (fold next_kept none_kept (take l.place l.text));
}
