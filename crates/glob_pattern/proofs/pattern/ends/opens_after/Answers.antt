use Rattle.std.proofs.Common.{◌≡◌, ◌-◌, ◌∙◌, ◌++◌, ◌∷◌, [], nat_eq, length, get_or, refl, sym, ap, subst, ⊎_elim, chars, arith}
use Rattle.std.proofs.lemmas.List.{get_or_at, length-append, nil_from_length}
use Rattle.std.proofs.lemmas.Str.{chars-nil}
use Rattle.std.specs.Str.{IsUtf8}
use Rattle.glob_pattern.specs.Private.TextTable.{opens_within}
use Rattle.glob_pattern.proofs.MatchingLemmas.EndBytes.{opens-at_last_byte}
use Rattle.glob_pattern.proofs.Places.{at_last}
use Rattle.glob_pattern.proofs.pattern.ends.opens_after.Goals as goal

pub returns-in-empty : goal.returns-in-empty
returns-in-empty c =
    let none : c.args.text.now ≡ [] = nil_from_length c.args.text.now (omega (
      arith,
      c.in-empty.len_below,
      ap length
          c.as_bytes.ensures.value,
    )) in
    rw (none, chars-nil) refl

pub returns-in-len1-up : goal.returns-in-len1-up
returns-in-len1-up c =
    let bytes = c.args.text.now in
    rw c.as_bytes.ensures.value (⊎_elim
    (λ none. absurd (omega (arith, c.in-len1-up.len_at_least, ap length c.as_bytes.ensures.value, ap length none)))
    (λ (front, last, e).
    let at : length (front ++ last ∷ []) - 1 ≡ length front = omega (arith, length-append front (last ∷ [])) in
    subst (λ bs. nat_eq (get_or bs (length bs - 1) 0) 47 ≡ opens_within c.args.opening (chars bs) (length (chars bs))) (sym e)
    (ap (λ k. nat_eq (get_or (front ++ last ∷ []) k 0) 47) at ∙ ap (λ b. nat_eq b 47) (get_or_at front last [] 0 (length front) refl)
    ∙ sym (opens-at_last_byte c.args.opening front last (subst IsUtf8 e c.utf8.text))))
    (at_last bytes))
