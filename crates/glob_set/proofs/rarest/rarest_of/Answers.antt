use Rattle.std.proofs.Common.{◌≡◌, ◌+◌, ◌<◌, [], length, get_or, Contains, IfSome, sym, subst, arith}
use Rattle.std.proofs.lemmas.List.{get_or_default}
use Rattle.glob_set.specs.Private.Keys.{AreListed}
use Rattle.glob_set.proofs.KeyLists.{keys_more, keys_end, listed_keys}
use Rattle.glob_set.proofs.NeedLists.{length_more}
use Rattle.glob_set.proofs.rarest.rarest_of.Goals as goal

pub keys_between-own-requires : goal.keys_between-own-requires
keys_between-own-requires g c =
    let patterns = c.args.patterns.now in
    let listed = subst (λ ks. AreListed patterns (length patterns) ks c.as_slice-starts.result.now) (sym c.as_slice-all.ensures.value)
    (subst (AreListed patterns (length patterns) c.args.listed.now.keys.items) (sym c.as_slice-starts.ensures.value) c.requires) in
    let below : c.loop-number.number < length patterns = omega (arith, c.loop-number-test.true) in
    (listed.order c.loop-number.number below, listed.within (c.loop-number.number + 1) (omega (arith, below)))

pub loop-number-preserved : goal.loop-number-preserved
loop-number-preserved g c =
    let patterns = c.args.patterns.now in
    let l = c.loop-number in
    let listed = subst (λ ks. AreListed patterns (length patterns) ks c.as_slice-starts.result.now) (sym c.as_slice-all.ensures.value)
    (subst (AreListed patterns (length patterns) c.args.listed.now.keys.items) (sym c.as_slice-starts.ensures.value) c.requires) in
    let below : l.number < length patterns = omega (arith, c.loop-number-test.true) in
    let pattern = get_or patterns l.number [] in
    record {
      as_many = length_more l.keys.items c.push.new.self.items c.rarest.result l.number l.invariant.as_many c.in_ok-push.ensures.items;
      each = keys_more patterns l.keys.items c.push.new.self.items l.number pattern _ c.rarest.result
          l.invariant.each l.invariant.as_many below (get_or_default patterns l.number [] pattern below)
          (listed_keys patterns (length patterns) c.as_slice-all.result.now c.as_slice-starts.result.now l.number below listed)
          (subst (λ ks. IfSome c.rarest.result (Contains ks)) c.keys_between-own.ensures c.rarest.ensures) c.in_ok-push.ensures.items;
    }

pub returns : goal.returns
returns g c =
    let l = c.loop-number in
    let end : l.number ≡ length c.args.patterns.now = omega arith in
    keys_end c.args.patterns.now l.keys.items l.number l.invariant.as_many end l.invariant.each
