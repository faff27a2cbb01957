use Rattle.std.proofs.Common.{sym, subst}
use Rattle.glob_set.specs.Private.Asking.{IsFirstOf}
use Rattle.glob_set.specs.Sets.{FirstMatch}
use Rattle.glob_set.proofs.AskingLemmas.{FirstMatch-of}
use Rattle.glob_set.proofs.set.PatternSet.first_match.Goals as goal

pub returns-clause-answer : goal.returns-clause-answer
returns-clause-answer g c =
    let set = c.args.self.now in
    let text = c.args.text.now in
    let found = c.listed_for-listed.new.found.items in
    subst (FirstMatch set.options set.patterns text) (sym c.earlier.ensures)
    (FirstMatch-of set.options set.patterns text c.listed_for-listed.result.now found c.listed_for-listed.ensures
    c.in_ok-listed.listed c.in_ok-found.found
    c.in_ok-listed.ensures.answer
    (subst (λ ks. IsFirstOf set.options set.patterns text ks c.in_ok-found.found) c.numbers-2.ensures c.in_ok-found.ensures.answer))
