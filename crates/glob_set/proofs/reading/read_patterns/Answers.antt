use Rattle.std.proofs.Common.{◌≡◌, arith, map, rules, subst, sym}
use Rattle.std.proofs.lemmas.Result.{err_from_is_err_and, IfErr-at_err, IfOk-at_ok}
use Rattle.glob_set.specs.Sets.{RefusesTexts, refusal_of}
use Rattle.glob_set.proofs.MappedErrors.{IfErr-mapped, IfOk-mapped}
use Rattle.glob_set.proofs.ReadLemmas.{map-take_more, RefusesTexts-at, IfErr-memory, accepted_more, AreAccepted-all}
use Rattle.glob_set.proofs.reading.read_patterns.Goals as goal

pub returns-in_err-push-clause-refused : goal.returns-in_err-push-clause-refused
returns-in_err-push-clause-refused g c = IfErr-memory _ _ c.from_residual-in_err-push.ensures.1

pub returns-in_err-pattern-clause-refused : goal.returns-in_err-pattern-clause-refused
returns-in_err-pattern-clause-refused g c =
    let texts = c.args.texts.now in
    let l = c.loop-number in
    let p = err_from_is_err_and c.from_residual.result c.from_residual.ensures.1 in
    rw (p.1, p.2) (IfErr-at_err (RefusesTexts (map (λ t. t.now) texts)) c.in_err-pattern.was
    (IfErr-mapped c.new.result c.map_err.result _ _ (RefusesTexts (map (λ t. t.now) texts)) c.map_err.ensures.cases c.new.ensures.refused
    (λ e d fault made.
    let is : d ≡ refusal_of l.number-counter e = search rules in
    subst (RefusesTexts (map (λ t. t.now) texts)) (sym is) (RefusesTexts-at (λ t. t.now) texts l.number-counter _
    (omega arith) l.invariant.accepted e fault))))

pub loop-number-preserved : goal.loop-number-preserved
loop-number-preserved g c =
    let texts = c.args.texts.now in
    let l = c.loop-number in
    record {
      read = map-take_more (λ t. t.now) texts l.number-counter _ _ _ _ (omega arith) l.invariant.read
          (IfOk-at_ok _ c.in_ok-pattern.was (IfOk-mapped c.new.result c.map_err.result _ _ c.map_err.ensures.cases
          c.new.ensures.text)) c.in_ok-push.ensures.items;
      accepted = accepted_more (λ t. t.now) texts l.number-counter _ (omega arith)
          (IfOk-at_ok _ c.in_ok-pattern.was (IfOk-mapped c.new.result c.map_err.result _ _ c.map_err.ensures.cases
          c.new.ensures.accepted)) l.invariant.accepted;
    }

pub returns-clause-accepted : goal.returns-clause-accepted
returns-clause-accepted g c =
    let l = c.loop-number in
    AreAccepted-all (λ t. t.now) c.args.texts.now l.number-counter (omega arith) l.invariant.accepted
