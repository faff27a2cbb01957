use Rattle.std.proofs.Common.{◌≡◌, length, take, get_or, fold, ap, subst, ◌∙◌, arith, below_more}
use Rattle.std.proofs.lemmas.List.{take_all}
use Rattle.glob_set.specs.Private.Components.{after, start}
use Rattle.glob_set.specs.Private.Keyed.{Finds, IsReadBefore}
use Rattle.glob_set.proofs.ByteFolds.{fold_more}
use Rattle.glob_set.proofs.KeyedLemmas.{keeps_finding}
use Rattle.glob_set.proofs.TextKeys.{ComponentsFound, Finds-components}
use Rattle.glob_set.proofs.keyed.Keyed.find_each.Goals as goal

pub loop-byte-init : goal.loop-byte-init
loop-byte-init g c = record {
  within = c.requires;
  read = c.start-component.ensures;
  found = λ i below. absurd (omega (arith, below));
}

pub loop-byte-preserved : goal.loop-byte-preserved
loop-byte-preserved g c =
    let keys = c.args.self.now in
    let text = c.args.text.now in
    let l = c.loop-byte in
    let byte = get_or text l.byte-index 0 in
    let new = c.find_before.new.found in
    record {
      within = c.find_before.ensures.within;
      read = c.after-component.ensures ∙ fold_more after start l.component text l.byte-index (omega arith) l.invariant.read;
      found = below_more (λ i. Finds keys (IsReadBefore (fold after start (take i text)) (get_or text i 0)) new) l.byte-index
          (λ i below. keeps_finding keys _ l.found new c.find_before.ensures.kept (l.invariant.found i below))
          (subst (λ read. Finds keys (IsReadBefore read byte) new) l.invariant.read c.find_before.ensures.all);
    }

pub returns-clause-all : goal.returns-clause-all
returns-clause-all g c =
    let keys = c.args.self.now in
    let text = c.args.text.now in
    let l = c.loop-byte in
    let end : l.byte-index ≡ length text = omega arith in
    Finds-components keys text l.component l.found c.find.new.found c.find.ensures.kept
    (subst (λ n. ComponentsFound keys text n l.found) end l.invariant.found)
    (l.invariant.read ∙ ap (fold after start) (take_all l.byte-index text (omega arith))) c.find.ensures.all
