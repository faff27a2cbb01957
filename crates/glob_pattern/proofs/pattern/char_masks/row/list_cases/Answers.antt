use Rattle.std.proofs.Common.{true, false, refl, sym, ◌∙◌}
use Rattle.glob_pattern.proofs.ClassLemmas.Folding.{held-plain, held-cases}
use Rattle.glob_pattern.proofs.MaskLemmas.Putting.{IsWith-after}
use Rattle.glob_pattern.proofs.pattern.char_masks.row.list_cases.Goals as goal

pub list_both-requires-clause-apart : goal.list_both-requires-clause-apart
list_both-requires-clause-apart c = c.requires.apart.plain

pub returns-then-not-are_letters-clause-plain : goal.returns-then-not-are_letters-clause-plain
returns-then-not-are_letters-clause-plain c = λ d. rw (held-plain true c.args.first c.args.last d refl) (c.list_both.ensures.plain d)

pub returns-then-not-are_letters-clause-folded : goal.returns-then-not-are_letters-clause-folded
returns-then-not-are_letters-clause-folded c = λ d.
    rw (held-plain false c.args.first c.args.last d (sym c.are_letters.ensures ∙ c.if-not-are_letters.true)) (c.list_both.ensures.folded d)

pub list_interval-requires-clause-apart : goal.list_interval-requires-clause-apart
list_interval-requires-clause-apart c =
    rw (c.to_ascii_lowercase-lower.ensures.value, c.to_ascii_lowercase-last_lower.ensures.value)
    (c.requires.apart.lower (sym c.are_letters.ensures ∙ c.if-not-are_letters.false))

pub list_interval-requires-2-clause-apart : goal.list_interval-requires-2-clause-apart
list_interval-requires-2-clause-apart c =
    rw (c.to_ascii_uppercase-upper.ensures.value, c.to_ascii_uppercase-last_upper.ensures.value)
    (c.requires.apart.upper (sym c.are_letters.ensures ∙ c.if-not-are_letters.false))

pub returns-clause-plain : goal.returns-clause-plain
returns-clause-plain c = λ d. rw (held-plain true c.args.first c.args.last d refl) (c.list_both.ensures.plain d)

pub returns-clause-folded : goal.returns-clause-folded
returns-clause-folded c = λ d.
    rw (← held-cases false c.args.first c.args.last d (sym c.are_letters.ensures ∙ c.if-not-are_letters.false))
    (IsWith-after _ _ _ c.args.bit _ _ (IsWith-after _ _ _ c.args.bit _ _ (c.list_both.ensures.folded d)
    (rw (c.to_ascii_lowercase-lower.ensures.value, c.to_ascii_lowercase-last_lower.ensures.value) at (c.list_interval.ensures d)))
    (rw (c.to_ascii_uppercase-upper.ensures.value, c.to_ascii_uppercase-last_upper.ensures.value) at (c.list_interval-2.ensures d)))
