use Rattle.std.proofs.Common.{◌∙◌, sym}
use Rattle.globs.proofs.RequestLemmas.{reading_attached, reading_flags, reading_value}
use Rattle.globs.proofs.SpellingLemmas.{none_found}
use Rattle.globs.proofs.command.Asked.parse.Goals as goal

pub loop-rest-preserved-in-len1-up-others : goal.loop-rest-preserved-in-len1-up-others
loop-rest-preserved-in-len1-up-others g c =
    sym (reading_value _ _ _ _ _ _ _ c.in-len1-up.len_at_least c.in-len1-up-after.len_at_least c.in-len1-up-others.len_at_least
    (sym c.asks_help.ensures ∙ c.if-asks_help.false) (sym c.asked.ensures ∙ c.in-Some.is)
    c.in_ok-take.ensures.taken) ∙ c.loop-rest.invariant

pub loop-rest-preserved-in_ok-take-2 : goal.loop-rest-preserved-in_ok-take-2
loop-rest-preserved-in_ok-take-2 g c =
    sym (reading_attached _ _ c.in-Some-attached.option c.in-Some-attached.value.now _ _ _ c.in-len1-up.len_at_least
    (sym c.asks_help.ensures ∙ c.if-asks_help.false) (sym c.asked.ensures ∙ c.in_default-asked.is)
    (sym c.in-Some-attached.ensures) c.in_ok-take-2.ensures.taken) ∙ c.loop-rest.invariant

pub loop-rest-preserved : goal.loop-rest-preserved
loop-rest-preserved g c =
    sym (reading_flags _ _ _ _ _ c.in-len1-up.len_at_least (sym c.asks_help.ensures ∙ c.if-asks_help.false)
    (sym c.asked.ensures ∙ c.in_default-asked.is)
    (none_found c.attached.result _ c.attached.ensures c.in_default-attached.is)
    (sym c.with_flags.ensures ∙ c.in-Some-with_flags.is)) ∙ (rw (sym c.options.view_is) at c.loop-rest.invariant)
