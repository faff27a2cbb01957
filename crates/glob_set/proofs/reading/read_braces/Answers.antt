use Rattle.std.proofs.Common.{map, subst, arith}
use Rattle.std.proofs.lemmas.Result.{err_from_is_err_and}
use Rattle.std.proofs.lemmas.List.{take_all}
use Rattle.glob_set.specs.BraceSets.{AreAlternativesOf}
use Rattle.glob_set.proofs.BraceSetLemmas.{HasPatterns-more, AreAlternativesOf-take, RefusesBraceTexts-at, refuses_texts_memory}
use Rattle.glob_set.proofs.reading.read_braces.Goals as goal

pub returns-in_err-append-clause-refused : goal.returns-in_err-append-clause-refused
returns-in_err-append-clause-refused g c = refuses_texts_memory _ _ c.from_residual-in_err-append.ensures.1

pub returns-in_err-found-clause-refused : goal.returns-in_err-found-clause-refused
returns-in_err-found-clause-refused g c =
    let l = c.loop-number in
    let p = err_from_is_err_and c.from_residual.result c.from_residual.ensures.1 in
    rw (p.1, p.2) (RefusesBraceTexts-at (λ t. t.now) c.args.texts.now l.number _ (omega arith) l.invariant.accepted _
    c.in_err-found.ensures.refused)

pub loop-number-preserved : goal.loop-number-preserved
loop-number-preserved g c =
    let l = c.loop-number in
    let texts = c.args.texts.now in
    record {
      read = AreAlternativesOf-take (λ t. t.now) texts l.number _ _ _ _ (omega arith) l.invariant.read c.in_ok-found.ensures.patterns
          c.in_ok-append.ensures.items;
      accepted = HasPatterns-more (λ t. t.now) texts l.number _ (omega arith) c.in_ok-found.ensures.accepted l.invariant.accepted;
    }

pub returns-clause-patterns : goal.returns-clause-patterns
returns-clause-patterns g c =
    let l = c.loop-number in
    subst (λ z. AreAlternativesOf (map (λ t. t.now) z) l.patterns.items) (take_all l.number c.args.texts.now (omega arith)) l.invariant.read
