use Rattle.std.proofs.Common.{chars, ◌≡◌, length, ap, ◌∙◌, arith, subst}
use Rattle.std.specs.Prelude.{encode_utf8_all}
use Rattle.std.proofs.lemmas.Str.{encodes-chars}
use Rattle.glob_pattern.specs.Computing.Tokens.{tokens_of}
use Rattle.glob_captures.specs.Private.Ends.{HasShortestEnds}
use Rattle.glob_captures.proofs.RestLemmas.Pieces.{AreCaptures-from_ends, TakesRest-from_Matches}
use Rattle.glob_captures.proofs.StepLemmas.{large_at_memory, large_at_value}
use Rattle.glob_captures.proofs.capturing.captures.Goals as goal

pub shortest_pieces-requires-clause-bytes : goal.shortest_pieces-requires-clause-bytes
shortest_pieces-requires-clause-bytes g c =
    let is : c.as_slice-2.result.now ≡ chars c.args.text.now = c.as_slice-2.ensures.value ∙ c.in_ok-characters.ensures in
    let bytes = ap length (ap encode_utf8_all is ∙ encodes-chars c.args.text.now c.utf8.text) in
    omega (arith, bytes)

pub rests_of-requires-clause-taken : goal.rests_of-requires-clause-taken
rests_of-requires-clause-taken g c =
    let is : c.as_slice.result.now ≡ chars c.args.text.now = c.as_slice.ensures.value ∙ c.in_ok-characters.ensures in
    rw is (TakesRest-from_Matches c.args.options (chars c.args.pattern.now) (chars c.args.text.now)
    (c.in_ok-matches_with.ensures.answer.0 c.if-not-branch.false))

pub shortest_pieces-requires-clause-taken : goal.shortest_pieces-requires-clause-taken
shortest_pieces-requires-clause-taken g c =
    let is : c.as_slice-2.result.now ≡ chars c.args.text.now = c.as_slice-2.ensures.value ∙ c.in_ok-characters.ensures in
    rw is (TakesRest-from_Matches c.args.options (chars c.args.pattern.now) (chars c.args.text.now)
    (c.in_ok-matches_with.ensures.answer.0 c.if-not-branch.false))

pub returns-clause-pieces : goal.returns-clause-pieces
returns-clause-pieces g c =
    let is : c.as_slice-2.result.now ≡ chars c.args.text.now = c.as_slice-2.ensures.value ∙ c.in_ok-characters.ensures in
    AreCaptures-from_ends c.args.options (tokens_of (chars c.args.pattern.now)) (chars c.args.text.now) c.in_ok-pieces.pieces.items
    (subst (λ text. HasShortestEnds c.args.options (tokens_of (chars c.args.pattern.now)) text
    c.in_ok-pieces.pieces.items) is c.in_ok-pieces.ensures)

pub returns-in_err-matches_with-clause-large : goal.returns-in_err-matches_with-clause-large
returns-in_err-matches_with-clause-large g c = large_at_memory _ c.if-is_too_large.ensures _ c.from_residual.ensures.1

pub returns-in_err-characters-clause-large : goal.returns-in_err-characters-clause-large
returns-in_err-characters-clause-large g c = large_at_memory _ c.if-is_too_large.ensures _ c.from_residual-in_err-characters.ensures.1

pub returns-in_err-rests-clause-large : goal.returns-in_err-rests-clause-large
returns-in_err-rests-clause-large g c = large_at_memory _ c.if-is_too_large.ensures _ c.from_residual-in_err-rests.ensures.1

pub returns-in_err-pieces-clause-large : goal.returns-in_err-pieces-clause-large
returns-in_err-pieces-clause-large g c = large_at_memory _ c.if-is_too_large.ensures _ c.from_residual-in_err-pieces.ensures.1

pub returns-then-not-branch-clause-large : goal.returns-then-not-branch-clause-large
returns-then-not-branch-clause-large g c = large_at_value _ c.if-is_too_large.ensures _

pub returns-clause-large : goal.returns-clause-large
returns-clause-large g c = large_at_value _ c.if-is_too_large.ensures _
