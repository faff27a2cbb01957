use Rattle.std.proofs.Common.{◌-◌, ◌≤◌, [], length, take, drop, refl, sym, ap, subst, arith}
use Rattle.std.proofs.lemmas.List.{take-take}
use Rattle.glob_pattern.specs.Private.Ends.{IsEnds}
use Rattle.glob_pattern.specs.Private.Needles.{IsNeedle}
use Rattle.glob_pattern.proofs.MatchingLemmas.Needles.{IsNeedle-within}
use Rattle.glob_pattern.proofs.MatchingLemmas.Stripped.{range-end}
use Rattle.glob_pattern.proofs.pattern.compiled.Compiled.new.Goals as goal
use Rattle.glob_pattern.proofs.pattern.compiled.Compiled.new.Goals.{then-between-lt3, else-between-lt3}

pub invariant_of-result : goal.invariant_of-result
invariant_of-result g c =
    let tokens = c.args.tokens.items in
    let ends = c.of-ends.result in
    let list = c.as_slice-list.ensures.value in
    let rest = drop ends.lead tokens in
    let n = length tokens - ends.trail - ends.lead in
    let is : IsEnds tokens ends = rw list at c.of-ends.ensures in
    let all = range-end c.as_slice-list.result.now ends.lead in
    record {
      at_ends = is;
      inside = elim c.if-between-lt3.branch [
        | then-between-lt3 w ↦ rw w.needle-is (record { front = []; plain = []; back = take n rest; tokens_are = refl; bytes_are = refl })
        | else-between-lt3 w ↦
            let few : w.min.result ≤ n = omega (arith, w.min.ensures, ap length list) in
            subst (IsNeedle (take n rest)) (sym w.needle-is)
            (IsNeedle-within (take n rest) w.of-needle.result 0 w.min.result
            (subst (λ ts. IsNeedle ts w.of-needle.result) (sym (take-take w.min.result n rest few))
            (rw (all, list) at w.of-needle.ensures)))
      ];
      between = rw (all, list) at c.in_ok-new.ensures;
    }
