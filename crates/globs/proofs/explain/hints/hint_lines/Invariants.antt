-- The lines so far and the lines of the changes that are left are the lines of all changes.
use Rattle.std.proofs.Common.{ℕ, List, [], drop, map, string_bytes}
use Rattle.globs.specs.Explain.Hints.{AddsHints}
use Rattle.globs.proofs.explain.hints.hint_lines.Given as goal

abbrev pub invariant-loop-change : goal.invariant-loop-change
invariant-loop-change g l = (all : List ℕ)
    → AddsHints l.options (map (λ p. p.now) l.patterns) l.text (drop l.change-index l.change-items) (string_bytes l.lines) all
    → AddsHints l.options (map (λ p. p.now) l.patterns) l.text l.change-items [] all
