use Rattle.std.proofs.Common.{chars, ℕ, ◌≡◌, ◌+◌, ◌≤◌, length}
use Rattle.glob_pattern.specs.Computing.Tokens.{tokens_of}
use Rattle.glob_captures.specs.Reaching.{TakeFront}
use Rattle.glob_captures.specs.Private.Fronts.{AreFronts}
use Rattle.glob_captures.proofs.reaching.farthest.Given as goal

abbrev pub invariant-loop-token : goal.invariant-loop-token
invariant-loop-token g l = record {
  within : l.place ≤ length l.text;
  fronts : AreFronts l.options (tokens_of (chars l.pattern)) l.text l.token l.whole.items;
  room : length l.alive.items ≡ length l.text + 1;
  taken : (n : ℕ) × (n ≤ l.token) × TakeFront l.options (tokens_of (chars l.pattern)) l.text n l.place;
  last : (n k : ℕ) → n ≤ l.token → k ≤ length l.text → TakeFront l.options (tokens_of (chars l.pattern)) l.text n k → k ≤ l.place;
}
