use Rattle.std.proofs.Common.{refl}
use Rattle.glob_pattern.proofs.pattern.char_masks.CharMasks.rows.Goals as goal

pub returns-in-Plain : goal.returns-in-Plain
returns-in-Plain g c = λ tokens words are. record { columns = refl; are = (rw c.in-Plain.is at are) c.args.case_sensitive }

pub returns-in-PlainWords : goal.returns-in-PlainWords
returns-in-PlainWords g c = λ tokens words are. c.of.ensures tokens words (rw c.as_slice.ensures.value (rw c.in-PlainWords.is at are))

pub returns-in-Listed : goal.returns-in-Listed
returns-in-Listed g c = λ tokens words are.
    c.of-in-Listed.ensures tokens words
    (rw (
      c.as_slice-in-Listed.ensures.value,
      c.as_slice-in-Listed-2.ensures.value,
      c.as_slice-in-Listed-3.ensures.value,
      c.deref.ensures,
      c.deref-in-Listed.ensures,
      c.deref-in-Listed-2.ensures,
      c.deref-in-Listed-3.ensures,
    ) (rw c.in-Listed.is at are))
