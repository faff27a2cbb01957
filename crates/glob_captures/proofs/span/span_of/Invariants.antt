use Rattle.std.proofs.Common.{chars, ◌≡◌, ◌≢◌, ℕ, ◌<◌, ◌≤◌, false}
use Rattle.glob_pattern.specs.Computing.Tokens.{tokens_of}
use Rattle.glob_captures.specs.Private.Rests.{grows, shape_at}
use Rattle.glob_captures.proofs.span.span_of.Given as goal

abbrev pub invariant-loop-token : goal.invariant-loop-token
invariant-loop-token g l = record {
  order : l.first ≤ l.last;
  within : l.last ≤ l.tokens;
  seen : l.first ≢ l.tokens → l.first < l.token;
  inside : l.first ≢ l.tokens → l.last < l.tokens;
  before : (n : ℕ) → n < l.first → n < l.token → grows (shape_at (tokens_of (chars l.pattern)) n) ≡ false;
  after : (n : ℕ) → l.last < n → n < l.token → grows (shape_at (tokens_of (chars l.pattern)) n) ≡ false;
}
