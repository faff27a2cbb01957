use Rattle.std.proofs.Common.{◌≡◌, ◌+◌, [], ◌∷◌, ◌++◌, ap, arith, get_or, List, map, ℕ, refl, subst, sym, take, ◌∙◌}
use Rattle.std.specs.Borrow.{Bor}
use Rattle.std.proofs.lemmas.List.{length-map, map-append, take_all, take_more}
use Rattle.glob_search.specs.Private.Nodes.{AreBeginnings}
use Rattle.glob_search.proofs.BeginningLemmas.Patterns.{beginnings-more, beginnings-none}
use Rattle.std.specs.List.{All}
use Rattle.std.proofs.lemmas.List.Elements.{All-nil}
use Rattle.glob_search.specs.Private.NodeNumbers.{IsWithin}
use Rattle.glob_search.specs.Refusals.{RefusesPatterns}
use Rattle.glob_search.proofs.BeginningLemmas.Refusing.{accepted-more, refuses-pattern}
use Rattle.glob_search.proofs.NodeLemmas.{within-pushed}
use Rattle.glob_search.proofs.beginnings.Beginnings.of.Goals as goal

pub invariant_of-beginnings : goal.invariant_of-beginnings
invariant_of-beginnings g c =
    let n = c.new-nodes.result.len in
    record {
      some = omega (arith, c.in_ok-push.ensures.len);
      within = within-pushed c.new-nodes.result.items c.push.new.self.items n c.push.new.self.len c.new.result
          c.in_ok-push.ensures.items c.in_ok-push.ensures.len (c.new.ensures.within c.push.new.self.len)
          (subst (All (IsWithin n)) (sym c.new-nodes.ensures.items) (All-nil (IsWithin n)));
    }

pub loop-number-init : goal.loop-number-init
loop-number-init g c = record {
  begins = beginnings-none c.new.result c.new.ensures.fresh c.args.options _ refl
      (c.in_ok-push.ensures.items ∙ ap (λ xs. xs ++ c.new.result ∷ []) c.new-nodes.ensures.items);
  accepted = λ k below. absurd (omega (arith, below));
}

pub loop-number-preserved : goal.loop-number-preserved
loop-number-preserved g c =
    let o = c.args.options in
    let patterns = c.args.patterns.now in
    let i = c.loop-number.number in
    let inv = c.loop-number.invariant.begins in
    let none : Bor (List ℕ) = record { ref_ptr = (0, 0); now = [] } in
    let one : Bor (List ℕ) = get_or patterns i none in
    let texts : List (Bor (List ℕ)) → List (List ℕ) = map (λ p. p.now) in
    let longer : texts (take (i + 1) patterns) ≡ texts (take i patterns) ++ one.now ∷ [] =
    ap texts (take_more patterns i none c.loop-number-test.true) ∙ map-append (λ p. p.now) (take i patterns) (one ∷ []) in
    record {
      begins = subst (λ ps. AreBeginnings o ps c.add.new.self) (sym longer)
          (beginnings-more o (texts (take i patterns)) one.now c.loop-number.beginnings c.add.new.self inv
          c.in_default.ensures.options (c.in_default.ensures.added inv.front inv.tree));
      accepted = accepted-more (λ p. p.now) patterns i none c.loop-number-test.true c.in_default.ensures.accepted
          c.loop-number.invariant.accepted;
    }

pub returns-clause-beginnings : goal.returns-clause-beginnings
returns-clause-beginnings g c =
    let patterns = c.args.patterns.now in
    c.gather.ensures.begins c.args.options (map (λ p. p.now) patterns)
    (subst (λ ps. AreBeginnings c.args.options (map (λ p. p.now) ps) c.loop-number.beginnings)
    (take_all c.loop-number.number patterns
    (omega (arith, c.loop-number-test.false, c.loop-number.auto.number-end))) c.loop-number.invariant.begins)

pub returns-clause-accepted : goal.returns-clause-accepted
returns-clause-accepted g c = λ k below. c.loop-number.invariant.accepted k
    (omega (arith, below, length-map c.args.patterns.now (λ p. p.now), c.loop-number-test.false))

pub returns-in-Err-clause-refused : goal.returns-in-Err-clause-refused
returns-in-Err-clause-refused g c =
    let patterns = c.args.patterns.now in
    let i = c.loop-number.number in
    let none : Bor (List ℕ) = record { ref_ptr = (0, 0); now = [] } in
    subst (RefusesPatterns (map (λ p. p.now) patterns)) (sym c.refusal_of.ensures)
    (refuses-pattern (λ p. p.now) patterns i none c.loop-number-test.true c.loop-number.invariant.accepted
    c.in-Err.refusal c.in-Err.ensures.refused)
