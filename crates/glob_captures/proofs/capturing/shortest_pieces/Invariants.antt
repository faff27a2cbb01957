use Rattle.std.proofs.Common.{chars, ◌≡◌, ◌≤◌, length}
use Rattle.glob_pattern.specs.Computing.Tokens.{tokens_of}
use Rattle.glob_captures.specs.Writing.{byte_place}
use Rattle.glob_captures.specs.Private.Rests.{TakesRest}
use Rattle.glob_captures.specs.Private.Ends.{LacksOnly}
use Rattle.glob_captures.proofs.capturing.shortest_pieces.Given as goal

abbrev pub invariant-loop-token : goal.invariant-loop-token
invariant-loop-token g l = record {
  within : l.place ≤ length l.text;
  start : l.start ≡ byte_place l.text l.place;
  taken : TakesRest l.options (tokens_of (chars l.pattern)) l.text l.token l.place;
  found : LacksOnly l.options (tokens_of (chars l.pattern)) l.text l.token l.place l.pieces.items;
}
