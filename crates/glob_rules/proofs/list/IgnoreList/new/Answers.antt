use Rattle.std.proofs.Common.{◌≡◌, length, sym, ◌∙◌, arith}
use Rattle.std.proofs.lemmas.List.{nil_from_length}
use Rattle.glob_rules.specs.Lists.{AreTaken}
use Rattle.glob_rules.proofs.LineLemmas.{IfErr-memory, RefusesText-first}
use Rattle.glob_rules.proofs.list.IgnoreList.new.Goals as goal

pub returns-in_err-list-clause-refused : goal.returns-in_err-list-clause-refused
returns-in_err-list-clause-refused g c = IfErr-memory _ _ c.from_residual.ensures.1

pub returns-in-Some-clause-refused : goal.returns-in-Some-clause-refused
returns-in-Some-clause-refused g c =
    RefusesText-first c.args.text.now c.in-Some.refusal _
    (sym c.in_ok-list.ensures.refusals ∙ sym c.into_iter.ensures.rest ∙ c.in-Some.ensures.cases.0)

pub returns-in-None-clause-taken : goal.returns-in-None-clause-taken
unfolding AreTaken
returns-in-None-clause-taken g c =
    let none : length c.in_ok-list.refusals.items ≡ 0 =
    omega (arith, c.into_iter.ensures.len, c.in-None.ensures.cases.0, c.in_ok-list.refusals.ok.0) in
    sym c.in_ok-list.ensures.refusals ∙ nil_from_length c.in_ok-list.refusals.items none
