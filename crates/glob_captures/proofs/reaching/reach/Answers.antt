use Rattle.std.proofs.Common.{chars, ◌≡◌, length, take, ap, ◌∙◌, subst, arith}
use Rattle.std.specs.Prelude.{encode_utf8_all}
use Rattle.std.proofs.lemmas.Str.{encodes-chars}
use Rattle.glob_pattern.specs.Computing.Tokens.{tokens_of}
use Rattle.glob_captures.specs.Reaching.{IsFarthest, AreWaiting, IsReached}
use Rattle.glob_captures.proofs.ByteLemmas.{length-encodes_take}
use Rattle.glob_captures.proofs.StepLemmas.{large_at_memory, large_at_value}
use Rattle.glob_captures.proofs.reaching.reach.Goals as goal

pub bytes_of-requires : goal.bytes_of-requires
bytes_of-requires g c =
    let is : c.deref.result.now ≡ chars c.args.text.now = c.deref.ensures.value ∙ c.in_ok-characters.ensures in
    let bytes = ap length (ap encode_utf8_all is ∙ encodes-chars c.args.text.now c.utf8.text) in
    omega (arith, bytes, length-encodes_take c.deref.result.now c.in_ok-place.place)

pub returns-clause-reached : goal.returns-clause-reached
unfolding IsReached
returns-clause-reached g c =
    let o = c.args.options in
    let tokens = tokens_of (chars c.args.pattern.now) in
    let k = c.in_ok-place.place in
    let is : c.deref.result.now ≡ chars c.args.text.now = c.deref.ensures.value ∙ c.in_ok-characters.ensures in
    let first : c.as_slice.result.now ≡ chars c.args.text.now = c.as_slice.ensures.value ∙ c.in_ok-characters.ensures in
    let second : c.as_slice-2.result.now ≡ chars c.args.text.now = c.as_slice-2.ensures.value ∙ c.in_ok-characters.ensures in (
      k,
      subst (λ text. IsFarthest o tokens text k) first c.in_ok-place.ensures,
      c.bytes_of.ensures ∙ ap (λ text. length (encode_utf8_all (take k text))) is,
      subst (λ text. AreWaiting o tokens text k c.in_ok-waiting.waiting.items) second c.in_ok-waiting.ensures.waiting,
    )

pub returns-in_err-characters-clause-large : goal.returns-in_err-characters-clause-large
returns-in_err-characters-clause-large g c = large_at_memory _ c.if-is_too_large.ensures _ c.from_residual.ensures.1

pub returns-in_err-place-clause-large : goal.returns-in_err-place-clause-large
returns-in_err-place-clause-large g c = large_at_memory _ c.if-is_too_large.ensures _ c.from_residual-in_err-place.ensures.1

pub returns-in_err-waiting-clause-large : goal.returns-in_err-waiting-clause-large
returns-in_err-waiting-clause-large g c = large_at_memory _ c.if-is_too_large.ensures _ c.from_residual-in_err-waiting.ensures.1

pub returns-clause-large : goal.returns-clause-large
returns-clause-large g c = large_at_value _ c.if-is_too_large.ensures _
