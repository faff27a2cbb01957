use Rattle.std.proofs.Common.{◌≡◌, arith}
use Rattle.std.proofs.lemmas.List.Elements.{same_from_all_zip}
use Rattle.glob_pattern.proofs.pattern.char_masks.CharMasksClone.clone.Goals as goal

pub returns-in_ok-new-in-Listed : goal.returns-in_ok-new-in-Listed
returns-in_ok-new-in-Listed g c =
    let copy = c.in_ok-copy-in-Listed.ensures.cases in
    record {
      cases = λ tokens words are case. rw (c.in_ok-new-in-Listed.ensures.ok, copy.0, copy.1, c.as_ref.ensures)
          ((rw c.in-Listed.is at are) case);
    }

pub returns-in_ok-clone-in-PlainWords : goal.returns-in_ok-clone-in-PlainWords
returns-in_ok-clone-in-PlainWords g c =
    record {
      cases = λ tokens words are case. let same : c.in_ok-clone-in-PlainWords.field-0.items ≡
          c.in-PlainWords.masks.items = same_from_all_zip _ _ _ c.in_ok-clone-in-PlainWords.ensures.cases.0
          (λ x y same. grind arith) in rw same ((rw c.in-PlainWords.is at are) case);
    }
