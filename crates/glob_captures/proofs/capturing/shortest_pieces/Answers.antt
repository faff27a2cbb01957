use Rattle.std.proofs.Common.{◌≡◌, ◌+◌, ◌-◌, ℕ, chars, length, refl, ap₂, subst, arith}
use Rattle.glob_pattern.specs.Computing.Tokens.{tokens_of}
use Rattle.glob_captures.specs.declared.piece.Piece.{Piece}
use Rattle.glob_captures.specs.Writing.{byte_place}
use Rattle.glob_captures.specs.Private.Rests.{TakesRest}
use Rattle.glob_captures.specs.Private.Ends.{LacksOnly}
use Rattle.glob_captures.proofs.ByteLemmas.{length-encodes_take, length-encodes_piece, byte_place_later}
use Rattle.glob_captures.proofs.RestLemmas.Ends.{LacksOnly-start, LacksOnly-more, TakesRest-after, HasShortestEnds-all}
use Rattle.glob_captures.proofs.capturing.shortest_pieces.Goals as goal

pub loop-token-init : goal.loop-token-init
loop-token-init g c = record {
  within = omega arith;
  start = refl;
  taken = c.requires.taken;
  found = rw c.in_ok-pieces.ensures.items (LacksOnly-start c.args.options (tokens_of (chars c.args.pattern.now)) c.args.text.now);
}

pub bytes_of-requires : goal.bytes_of-requires
bytes_of-requires g c =
    omega (
      arith,
      length-encodes_piece c.args.text.now c.loop-token.place (c.shortest_end-after.result -
          c.loop-token.place),
      c.requires.bytes,
    )

pub overflow_add-end : goal.overflow_add-end
overflow_add-end g c =
    omega (
      arith,
      byte_place_later c.args.text.now c.loop-token.place c.shortest_end-after.result c.shortest_end-after.ensures.low,
      length-encodes_take c.args.text.now c.shortest_end-after.result,
      c.loop-token.invariant.start,
      c.requires.bytes,
      c.bytes_of.ensures,
    )

pub loop-token-preserved : goal.loop-token-preserved
loop-token-preserved g c =
    let o = c.args.options in
    let tokens = tokens_of (chars c.args.pattern.now) in
    let text = c.args.text.now in
    let i = c.loop-token.place in
    let j = c.shortest_end-after.result in
    let later = byte_place_later text i j c.shortest_end-after.ensures.low in
    let end : c.loop-token.start + c.bytes_of.result ≡ byte_place text j = omega
    (arith, later, c.loop-token.invariant.start, c.bytes_of.ensures) in
    let piece : ℕ → ℕ → Piece = λ a b. record { start = a; end = b } in
    let same : piece c.loop-token.start (c.loop-token.start + c.bytes_of.result) ≡ piece (byte_place text i)
    (byte_place text j) = ap₂ piece c.loop-token.invariant.start end in
    let more = LacksOnly-more o tokens text c.loop-token.token i (omega arith) c.loop-token.pieces.items j
    c.shortest_end-after.ensures.end c.loop-token.invariant.found in
    record {
      within = c.shortest_end-after.ensures.high;
      start = end;
      taken = TakesRest-after o tokens text c.loop-token.token i (omega arith) j c.shortest_end-after.ensures.end;
      found = rw (c.in_ok-push.ensures.items, same) more;
    }

pub returns : goal.returns
returns g c =
    let tokens = tokens_of (chars c.args.pattern.now) in
    let at : c.loop-token.token ≡ length tokens = omega arith in
    HasShortestEnds-all c.args.options tokens c.args.text.now c.loop-token.place c.loop-token.pieces.items
    (subst (λ n. TakesRest c.args.options tokens c.args.text.now n c.loop-token.place) at c.loop-token.invariant.taken)
    (subst (λ n. LacksOnly c.args.options tokens c.args.text.now n c.loop-token.place c.loop-token.pieces.items) at
    c.loop-token.invariant.found)
