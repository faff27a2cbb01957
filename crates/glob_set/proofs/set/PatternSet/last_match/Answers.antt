use Rattle.std.proofs.Common.{sym, subst}
use Rattle.glob_set.specs.Private.Asking.{IsLastOf}
use Rattle.glob_set.specs.Sets.{LastMatch}
use Rattle.glob_set.proofs.AskingLemmas.{LastMatch-of}
use Rattle.glob_set.proofs.set.PatternSet.last_match.Goals as goal

pub returns-clause-answer : goal.returns-clause-answer
returns-clause-answer g c =
    let set = c.args.self.now in
    let text = c.args.text.now in
    let found = c.listed_for-listed.new.found.items in
    subst (LastMatch set.options set.patterns text) (sym c.later.ensures)
    (LastMatch-of set.options set.patterns text c.listed_for-listed.result.now found c.listed_for-listed.ensures
    c.in_ok-listed.listed c.in_ok-found.found
    c.in_ok-listed.ensures.answer
    (subst (λ ks. IsLastOf set.options set.patterns text ks c.in_ok-found.found) c.numbers-2.ensures c.in_ok-found.ensures.answer))
