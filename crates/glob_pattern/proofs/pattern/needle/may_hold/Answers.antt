use Rattle.std.proofs.Common.{◌≡◌, ℕ, ◌+◌, ◌-◌, ◌<◌, List, length, get_or, take, drop, bit_and, refl, sym, subst, ap, ◌∙◌, ⊎_elim, arith}
use Rattle.std.proofs.lemmas.Bool.{both_ways, cases_lt}
use Rattle.std.proofs.lemmas.List.{length-map, get_or-map, get_or-take, get_or-drop}
use Rattle.std.proofs.lemmas.Nat.Bits.{bit_at_and}
use Rattle.std.specs.Char.{to_ascii_lowercase}
use Rattle.std.specs.Int.{bit_at}
use Rattle.glob_pattern.specs.Private.Needles.{AreLanes, IsAt}
use Rattle.glob_pattern.proofs.BitLemmas.SetBits.{IsBitSet-iff_one}
use Rattle.glob_pattern.proofs.pattern.needle.may_hold.Goals as goal

-- at the place of the needle, each byte is the same in either case
same_byte : (bytes needle : List ℕ) (k i j : ℕ) → IsAt bytes needle k → i < length needle → j ≡ k + i
    → to_ascii_lowercase (get_or bytes j 0) ≡ to_ascii_lowercase (get_or needle i 0)
same_byte bytes needle k i j stands lt at =
    let cut = take (length needle) (drop k bytes) in
    let long : length cut ≡ length needle = sym (length-map cut to_ascii_lowercase) ∙ ap length stands.folded
    ∙ length-map needle to_ascii_lowercase in
    let byte : get_or cut i 0 ≡ get_or bytes j 0 = get_or-take (length needle) (drop k bytes) i 0 lt ∙ get_or-drop k
    bytes i 0 ∙ ap (λ n. get_or bytes n 0) (sym at) in
    ap to_ascii_lowercase (sym byte) ∙ sym (get_or-map to_ascii_lowercase cut i 0 0 (omega arith)) ∙ ap (λ xs. get_or xs i 0) stands.folded
    ∙ get_or-map to_ascii_lowercase needle i 0 0 lt

-- the lanes of its first and its last byte are both set there
found_there : (bytes needle : List ℕ) (start gap a b k : ℕ) → gap ≡ length needle - 1 → 0 < length needle
    → AreLanes bytes start (get_or needle 0 0) a → AreLanes bytes (start + gap) (get_or needle gap 0) b
    → k < 16 → IsAt bytes needle (start + k) → bit_at (bit_and a b) k ≡ 1
found_there bytes needle start gap a b k is some first last few stands =
    let one = first.each k few (omega (arith, stands.within)) (same_byte bytes needle (start + k) 0 (start + k) stands
    some (omega arith)) in
    let other = last.each k few (omega (arith, stands.within)) (same_byte bytes needle (start + k) gap
    (start + gap + k) stands (omega arith) (omega arith)) in
    omega (arith, bit_at_and a b k)

pub loop-start-preserved : goal.loop-start-preserved
loop-start-preserved c = λ k below is.
    let bytes = c.args.bytes.now in
    let needle = c.args.needle.now in
    let start = c.loop-start.start in
    ⊎_elim
    (λ lt. c.loop-start.invariant k lt is)
    (λ from.
    let at : k ≡ start + (k - start) = omega arith in
    let here = subst (IsAt bytes needle) at is in
    let one = found_there bytes needle start _ _ _ (k - start) refl c.requires.some c.same_lanes-first.ensures
    c.same_lanes.ensures (omega arith) here in
    both_ways _ c.if-is_at_any.false (c.is_at_any.ensures (k - start) ((IsBitSet-iff_one _ (k - start)).1 one) here))
    (cases_lt k start)
