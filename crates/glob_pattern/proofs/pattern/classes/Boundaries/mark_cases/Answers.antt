use Rattle.glob_pattern.proofs.ClassLemmas.Intervals.{Grows-trans, HasInterval-grows}
use Rattle.glob_pattern.proofs.pattern.classes.Boundaries.mark_cases.Goals as goal

pub returns-clause-marked : goal.returns-clause-marked
returns-clause-marked g c =
    let second = c.in_ok-mark-2.ensures in
    let third = c.in_ok-mark-3.ensures in
    let rest = Grows-trans _ _ _ second.grows third.grows in
    record {
      plain = λ le. HasInterval-grows _ _ rest _ _ c.in_ok-mark.ensures.marked;
      lower = λ letters le. rw (c.to_ascii_lowercase.ensures.value, c.to_ascii_lowercase-2.ensures.value) at
          (HasInterval-grows _ _ third.grows _ _ second.marked);
      upper = λ letters le. rw (c.to_ascii_uppercase.ensures.value, c.to_ascii_uppercase-2.ensures.value) at third.marked;
    }

pub returns-clause-grows : goal.returns-clause-grows
returns-clause-grows g c = Grows-trans _ _ _ c.in_ok-mark.ensures.grows (Grows-trans _ _ _ c.in_ok-mark-2.ensures.grows
    c.in_ok-mark-3.ensures.grows)
