use Rattle.std.proofs.Common.{◌≡◌, ℕ, ◌+◌, ◌-◌, inl, inr, List, length, drop, get_or, Option, sym, ap, subst, ◌∙◌, arith, below_more}
use Rattle.std.proofs.lemmas.List.{drop_all}
use Rattle.glob_set.specs.declared.key.Key.{Key}
use Rattle.glob_set.specs.Private.Components.{hashed}
use Rattle.glob_set.specs.Private.Keyed.{Finds}
use Rattle.glob_set.specs.Private.Keys.{AreKinds, hash_back}
use Rattle.glob_set.proofs.ByteFolds.{fold_back}
use Rattle.glob_set.proofs.KeyedLemmas.{KeepsAll-same, KeepsAll-then, keeps_finding}
use Rattle.glob_set.proofs.TextKeys.{Finds-behind, Finds-endings, IsReadBehind}
use Rattle.glob_set.proofs.keyed.Keyed.find_endings.Goals as goal

pub loop-len-init : goal.loop-len-init
loop-len-init g c = record {
  few = omega arith;
  fits = omega arith;
  within = c.requires;
  kept = KeepsAll-same c.args.found.now;
  read = sym (ap hash_back (drop_all (length c.args.text.now - 0) c.args.text.now (omega arith)));
  found = λ len below. absurd (omega (arith, below));
}

pub returns-then-len-self-clause-kept : goal.returns-then-len-self-clause-kept
returns-then-len-self-clause-kept g c = KeepsAll-then c.args.found.now c.loop-len.found c.find_if.new.found
    c.loop-len.invariant.kept c.find_if.ensures.kept

pub returns-then-len-self-clause-all : goal.returns-then-len-self-clause-all
returns-then-len-self-clause-all g c =
    let keys = c.args.self.now in
    let kinds = c.self.inside.kinds in
    let are = subst (λ (ks : List (Option Key)). AreKinds ks kinds) c.self.view_is c.self.invariant.1 in
    let text = c.args.text.now in
    let l = c.loop-len in
    let new = c.find_if.new.found in
    Finds-endings keys kinds are text (l.len + 1) new
    (below_more (λ len. Finds keys (IsReadBehind text len) new) l.len
    (λ len below. keeps_finding keys _ l.found new c.find_if.ensures.kept (l.invariant.found len below))
    (Finds-behind keys kinds are text l.len l.hash c.is_asked.result new l.invariant.read (λ _ mark. c.is_asked.ensures.1 (inl mark))
    (λ used. c.is_asked.ensures.1 (inr (c.has_length-is_used.ensures.1 used))) c.find_if.ensures.all))
    (λ len most within. omega (arith, most, c.if-len-self.true))

pub loop-len-preserved : goal.loop-len-preserved
loop-len-preserved g c =
    let keys = c.args.self.now in
    let kinds = c.self.inside.kinds in
    let are = subst (λ (ks : List (Option Key)). AreKinds ks kinds) c.self.view_is c.self.invariant.1 in
    let text = c.args.text.now in
    let l = c.loop-len in
    let new = c.find_if.new.found in
    let left : ℕ = length text - (l.len + 1) in
    let before : length text - 1 - l.len ≡ left = omega arith in
    let same : length text - l.len ≡ left + 1 = omega arith in
    record {
      few = omega (arith, l.invariant.few, c.if-len-self.false);
      fits = omega arith;
      within = c.find_if.ensures.within;
      kept = KeepsAll-then c.args.found.now l.found new l.invariant.kept c.find_if.ensures.kept;
      read = c.hash_after-hash.ensures ∙ ap (λ n. hashed l.hash (get_or text n 0)) before
          ∙ fold_back hashed 0 l.hash text left (omega arith) (l.invariant.read ∙ ap (λ n. hash_back (drop n text)) same);
      found = below_more (λ len. Finds keys (IsReadBehind text len) new) l.len
          (λ len below. keeps_finding keys _ l.found new c.find_if.ensures.kept (l.invariant.found len below))
          (Finds-behind keys kinds are text l.len l.hash c.is_asked.result new l.invariant.read (λ _ mark. c.is_asked.ensures.1 (inl mark))
          (λ used. c.is_asked.ensures.1 (inr (c.has_length-is_used.ensures.1 used))) c.find_if.ensures.all);
    }

pub returns-clause-kept : goal.returns-clause-kept
returns-clause-kept g c = KeepsAll-then c.args.found.now c.loop-len.found c.find_if-2.new.found
    c.loop-len.invariant.kept c.find_if-2.ensures.kept

pub returns-clause-all : goal.returns-clause-all
returns-clause-all g c =
    let keys = c.args.self.now in
    let kinds = c.self.inside.kinds in
    let are = subst (λ (ks : List (Option Key)). AreKinds ks kinds) c.self.view_is c.self.invariant.1 in
    let text = c.args.text.now in
    let l = c.loop-len in
    let new = c.find_if-2.new.found in
    Finds-endings keys kinds are text (l.len + 1) new
    (below_more (λ len. Finds keys (IsReadBehind text len) new) l.len
    (λ len below. keeps_finding keys _ l.found new c.find_if-2.ensures.kept (l.invariant.found len below))
    (Finds-behind keys kinds are text l.len l.hash _ new l.invariant.read (λ inside _. absurd
    (omega (arith, inside, c.loop-len-test.false))) (λ used. c.has_length.ensures.1 used) c.find_if-2.ensures.all))
    (λ len most within. omega (arith, within, c.loop-len-test.false))
