use Rattle.std.proofs.Common.{chars, ℕ, ◌≡◌, ◌+◌, ◌<◌, ◌↔◌, length}
use Rattle.std.specs.Prelude.{Contains, AllPairs}
use Rattle.glob_pattern.specs.Computing.Tokens.{tokens_of}
use Rattle.glob_captures.specs.Reaching.{Waits}
use Rattle.glob_captures.specs.Private.Fronts.{AreFronts}
use Rattle.glob_captures.proofs.reaching.waiting_at.Given as goal

abbrev pub invariant-loop-token : goal.invariant-loop-token
invariant-loop-token g l = record {
  fronts : AreFronts l.options (tokens_of (chars l.pattern)) l.text l.token l.whole.items;
  room : length l.alive.items ≡ length l.text + 1;
  waiting : (n : ℕ) → Contains l.waiting.items n ↔ ((n < l.token) × Waits l.options (tokens_of (chars l.pattern)) l.text n l.place);
  ascending : AllPairs (λ number later. number < later) l.waiting.items;
}
