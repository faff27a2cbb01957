use Rattle.std.proofs.Common.{chars, ℕ, ◌≡◌, ◌+◌, ◌<◌, ◌≤◌, ◌↔◌, false, length, get_or, IsTrue}
use Rattle.glob_pattern.specs.Computing.Tokens.{tokens_of}
use Rattle.glob_captures.specs.Reaching.{TakeFront, Waits}
use Rattle.glob_captures.specs.Private.Fronts.{Took}
use Rattle.glob_captures.proofs.reaching.step.Given as goal

abbrev pub invariant-loop-place : goal.invariant-loop-place
invariant-loop-place g l = record {
  many : length l.whole ≡ length l.text + 1;
  room : length l.alive ≡ length l.text + 1;
  ends : (k : ℕ) → k < l.place → IsTrue (get_or l.whole k false) ↔ TakeFront l.options (tokens_of (chars l.pattern)) l.text (l.token + 1) k;
  fronts : (k : ℕ) → l.place ≤ k → k ≤ length l.text → IsTrue (get_or l.whole k false) ↔ TakeFront l.options
      (tokens_of (chars l.pattern)) l.text l.token k;
  waits : (k : ℕ) → k < l.place → IsTrue (get_or l.alive k false) ↔ Waits l.options (tokens_of (chars l.pattern)) l.text l.token k;
  took : l.place ≤ length l.text → IsTrue l.took ↔ Took l.options (tokens_of (chars l.pattern)) l.text l.token l.place;
}
