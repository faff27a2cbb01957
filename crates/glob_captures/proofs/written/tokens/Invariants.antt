use Rattle.std.proofs.Common.{chars, ◌≡◌, ◌≤◌, length, map, take, drop}
use Rattle.glob_pattern.specs.Computing.Tokens.{tokens_of, kind_of}
use Rattle.glob_captures.specs.Writing.{AreAdjacent, AreWritten, byte_place}
use Rattle.glob_captures.specs.Private.Written.{TokensFrom}
use Rattle.glob_captures.proofs.written.tokens.Given as goal

abbrev pub invariant-loop-token : goal.invariant-loop-token
invariant-loop-token g l = record {
  within : l.place ≤ length l.text;
  start : l.start ≡ byte_place l.text l.place;
  many : length l.list.items ≡ l.token;
  kinds : map (λ token. token.kind) l.list.items ≡ take l.token (map kind_of (tokens_of (chars l.pattern)));
  adjacent : AreAdjacent 0 l.list.items l.start;
  written : AreWritten l.text 0 (take l.token (tokens_of (chars l.pattern))) l.list.items l.place;
  left : TokensFrom l.text l.place (drop l.token (tokens_of (chars l.pattern)));
}
