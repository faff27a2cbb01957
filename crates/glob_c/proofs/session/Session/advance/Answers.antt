use Rattle.std.proofs.Common.{ap, sym, subst, ◌∙◌}
use Rattle.glob_walk.specs.Machines.{HasGiven, saying}
use Rattle.glob_c.specs.Sessions.{Counts, RepliesTo, answer_of}
use Rattle.glob_c.proofs.Resumed.{asks_after, counted, gives_next, resumed}
use Rattle.glob_c.proofs.session.Session.advance.Goals as goal

pub invariant_of-self : goal.invariant_of-self
invariant_of-self c =
    let old = c.self.inside in
    let step = c.resume.ensures in
    asks_after (saying old.step) old.reply old.machine (saying c.resume.result) c.resume.new.self c.self.invariant
    (resumed old.reply (c.answer_of.ensures ∙ ap answer_of c.replace-reply.ensures.value) step.steps step.free step.waits)

pub returns-clause-counts : goal.returns-clause-counts
returns-clause-counts c =
    let old = c.self.inside in
    let step = c.resume.ensures in
    subst (λ v. Counts v.said v.reply v.machine (saying c.resume.result) c.resume.new.self) c.self.view_is
    (counted (saying old.step) old.reply old.machine (saying c.resume.result) c.resume.new.self c.self.invariant
    (resumed old.reply (c.answer_of.ensures ∙ ap answer_of c.replace-reply.ensures.value) step.steps step.free step.waits))

pub returns-clause-driven : goal.returns-clause-driven
returns-clause-driven c = λ x all given told before.
    let old = c.self.inside in
    let step = c.resume.ensures in
    gives_next (saying old.step) old.reply old.machine (saying c.resume.result) c.resume.new.self c.self.invariant
    (resumed old.reply (c.answer_of.ensures ∙ ap answer_of c.replace-reply.ensures.value) step.steps step.free step.waits) x all given
    (subst (λ v. RepliesTo v.said v.reply v.machine x) (sym c.self.view_is) told)
    (subst (λ v. HasGiven all x given v.machine) (sym c.self.view_is) before)
