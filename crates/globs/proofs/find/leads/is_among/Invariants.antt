-- This lead is among the remaining leads exactly when it is among all.
use Rattle.std.proofs.Common.{◌≡◌, bytes_eq, drop, map}
use Rattle.std.specs.List.{list_any}
use Rattle.globs.proofs.find.leads.is_among.Given as goal

abbrev pub invariant-loop-other : goal.invariant-loop-other
invariant-loop-other l =
    list_any (λ x. bytes_eq x l.lead) (map (λ x. x.now) (drop l.other-index l.leads)) ≡
    list_any (λ x. bytes_eq x l.lead) (map (λ x. x.now) l.leads)
