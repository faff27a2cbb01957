use Rattle.std.proofs.Common.{◌≡◌, ℕ, ◌+◌, ◌-◌, ◌<◌, List, length, get_or, Option, None, sym, ap, subst, ◌∙◌, arith}
use Rattle.std.proofs.lemmas.List.{get_or_default}
use Rattle.glob_set.specs.declared.key.Key.{Key}
use Rattle.glob_set.specs.Private.Components.{slot_of}
use Rattle.glob_set.specs.Private.Keyed.{IsNext, AreLinked, key_slot}
use Rattle.glob_set.proofs.KeyedLemmas.{KeepsAll-same, KeepsAll-then, KeepsAll-at, Finds-one, seen_first, seen_next}
use Rattle.glob_set.proofs.keyed.Keyed.find.Goals as goal

pub loop-number-init : goal.loop-number-init
loop-number-init g c =
    let keys = c.args.self.now in
    let firsts = c.self.inside.first.items in
    let slots : ℕ = length firsts - 1 in
    let linked : AreLinked keys firsts c.self.inside.next.items = subst
    (λ ks. AreLinked ks firsts c.self.inside.next.items) c.self.view_is c.self.invariant.0 in
    let number = c.index-number.result.now in
    let slot = c.slot_of.result in
    let count : c.len.result ≡ length firsts = omega (arith, c.len.ensures) in
    let below : slot < length firsts = omega (arith, c.slot_of.ensures.within, count) in
    let is : number ≡ get_or firsts slot 0 = c.index-number.ensures ∙ get_or_default firsts slot number 0 below in
    let own : slot ≡ slot_of c.args.hash slots = c.slot_of.ensures.slot ∙ ap (λ n. slot_of c.args.hash (n - 1)) count in
    let at : IsNext keys slots (slot_of c.args.hash slots) 0 number =
    subst (λ s. IsNext keys slots s 0 number) own (subst (IsNext keys slots slot 0) (sym is) (linked.first slot below)) in
    record {
      within = c.requires;
      kept = KeepsAll-same c.args.found.now;
      here = at.here;
      seen = seen_first keys slots
          c.args.hash number c.args.found.now at;
    }

-- the next pattern in the slot
next_in : (keys : List (Option Key)) (firsts nexts : List ℕ) (number next slot : ℕ) → AreLinked keys firsts nexts → number < length keys
    → next ≡ get_or nexts number next → key_slot (get_or keys number None) (length firsts - 1) ≡ slot
    → IsNext keys (length firsts - 1) slot (number + 1) next
next_in keys firsts nexts number next slot linked below is own =
    let slots : ℕ = length firsts - 1 in
    subst (λ s. IsNext keys slots s (number + 1) next) own
    (subst (IsNext keys slots (key_slot (get_or keys number None) slots) (number + 1))
    (sym (is ∙ get_or_default nexts number next 0 (omega (arith, below, linked.as_many)))) (linked.each number below))

pub loop-number-preserved : goal.loop-number-preserved
loop-number-preserved g c =
    let keys = c.args.self.now in
    let firsts = c.self.inside.first.items in
    let nexts = c.self.inside.next.items in
    let slots : ℕ = length firsts - 1 in
    let l = c.loop-number in
    let found = c.push_if.new.found in
    let next = c.index-number-in-loop-number.result.now in
    let linked : AreLinked keys firsts nexts = subst (λ ks. AreLinked ks firsts nexts) c.self.view_is c.self.invariant.0 in
    let count : length c.self.inside.keys.items ≡ length keys = ap length c.self.view_is in
    let below : l.number < length keys = omega (arith, c.loop-number-test.true, c.len-in-loop-number.ensures, count) in
    let at = next_in keys firsts nexts l.number next (slot_of c.args.hash slots) linked below
    c.index-number-in-loop-number.ensures (l.invariant.here below) in
    record {
      within = c.push_if.ensures.within;
      kept = KeepsAll-then c.args.found.now l.found found l.invariant.kept c.push_if.ensures.kept;
      here = at.here;
      seen = seen_next keys slots c.args.hash l.number next found
          (λ k before within has. KeepsAll-at l.found found k c.push_if.ensures.kept (l.invariant.seen k before within
          has)) c.push_if.ensures.pushed at;
    }

pub loop-number-smaller : goal.loop-number-smaller
loop-number-smaller g c =
    let keys = c.args.self.now in
    let firsts = c.self.inside.first.items in
    let nexts = c.self.inside.next.items in
    let l = c.loop-number in
    let next = c.index-number-in-loop-number.result.now in
    let linked : AreLinked keys firsts nexts = subst (λ ks. AreLinked ks firsts nexts) c.self.view_is c.self.invariant.0 in
    let count : length c.self.inside.keys.items ≡ length keys = ap length c.self.view_is in
    let below : l.number < length keys = omega (arith, c.loop-number-test.true, c.len-in-loop-number.ensures, count) in
    let at = next_in keys firsts nexts l.number next _ linked below c.index-number-in-loop-number.ensures (l.invariant.here below) in
    let less : length keys - next < length keys - l.number = omega (arith, below, at.after) in
    less

pub returns-clause-all : goal.returns-clause-all
returns-clause-all g c =
    let keys = c.args.self.now in
    let l = c.loop-number in
    let count : length c.self.inside.keys.items ≡ length keys = ap length c.self.view_is in
    Finds-one keys c.args.hash l.found
    (λ number below is. l.invariant.seen number (omega (
      arith,
      below,
      c.loop-number-test.false,
      c.len-in-loop-number.ensures,
      count,
    )) below is)
