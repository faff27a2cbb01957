use Rattle.std.proofs.Common.{◌≡◌, ℕ, ◌+◌, ◌-◌, drop, fold, reverse, sym, ap, ◌∙◌, arith}
use Rattle.std.proofs.lemmas.List.{drop_all}
use Rattle.glob_set.specs.Private.Components.{hashed}
use Rattle.glob_set.proofs.ByteFolds.{fold_back}
use Rattle.glob_set.proofs.components.hash_before.Goals as goal

pub loop-left-init : goal.loop-left-init
loop-left-init c =
    let bytes = c.as_bytes-bytes.result.now in
    record {
      within = omega arith;
      read = sym (ap (λ bs. fold hashed c.args.hash (reverse bs)) (drop_all _ bytes (omega arith)));
    }

pub bounds-bytes-left : goal.bounds-bytes-left
bounds-bytes-left c = omega (arith, c.loop-left.invariant.within)

pub loop-left-preserved : goal.loop-left-preserved
loop-left-preserved c =
    let bytes = c.as_bytes-bytes.result.now in
    let l = c.loop-left in
    let left : ℕ = l.left - 1 in
    let same : l.left ≡ left + 1 = omega arith in
    record {
      within = omega (arith, l.invariant.within);
      read = c.hash_after-hash.ensures
          ∙ fold_back hashed c.args.hash l.hash bytes left (omega (arith, l.invariant.within)) (l.invariant.read ∙ ap
          (λ n. fold hashed c.args.hash (reverse (drop n bytes))) same);
    }

pub returns : goal.returns
returns c =
    let bytes = c.as_bytes-bytes.result.now in
    let l = c.loop-left in
    let none : l.left ≡ 0 = omega arith in
    l.invariant.read ∙ ap (λ n. fold hashed c.args.hash (reverse (drop n bytes))) none
    ∙ ap (λ bs. fold hashed c.args.hash (reverse bs)) (c.as_bytes-bytes.ensures.value ∙ c.encode_utf8.ensures.value)
