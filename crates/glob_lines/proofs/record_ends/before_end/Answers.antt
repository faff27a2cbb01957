use Rattle.std.proofs.Common.{◌≡◌, ℕ, ◌==◌, List, length, take, drop, map, cond, eqb, sym, ◌∙◌, arith, w8}
use Rattle.std.proofs.lemmas.Bool.{cond-true, cond-false, eq-eqb, ne_eqb}
use Rattle.std.proofs.lemmas.Simd.{length-chunk, bitmask_splat, first_set_mask_l}
use Rattle.std.specs.Int.Count.{count_trailing_zeros}
use Rattle.std.specs.List.{position_or_len}
use Rattle.std.specs.Simd.Lanes.{mask_l}
use Rattle.glob_lines.proofs.record_ends.before_end.Goals as goal

-- the lowest lane that is set is the first place; sixteen if there is none
first-lane : (end : ℕ) (bytes : List ℕ) (lanes : ℕ) → length bytes ≡ 16 → lanes ≡ mask_l (map (λ b. b == end) bytes)
    → cond (eqb lanes 0) 16 (count_trailing_zeros 64 lanes) ≡ position_or_len (λ b. b == end) bytes
first-lane end bytes lanes long is = rw is (first_set_mask_l (λ b. b == end) bytes 16 long (omega arith))

pub returns-then-ends-eq0 : goal.returns-then-ends-eq0
returns-then-ends-eq0 c =
    let bytes = take 16 (drop c.args.start c.args.bytes.now) in
    let long : length bytes ≡ 16 = length-chunk c.args.start 16 c.args.bytes.now c.requires in
    sym (cond-true _ _ _ (eq-eqb _ 0 c.if-ends-eq0.true)) ∙ first-lane c.args.end bytes _ long
    (bitmask_splat w8 eqb bytes 16 c.args.end long (omega arith))

pub returns-else-ends-eq0 : goal.returns-else-ends-eq0
returns-else-ends-eq0 c =
    let bytes = take 16 (drop c.args.start c.args.bytes.now) in
    let long : length bytes ≡ 16 = length-chunk c.args.start 16 c.args.bytes.now c.requires in
    sym (cond-false _ _ _ (ne_eqb _ 0 c.if-ends-eq0.false)) ∙ first-lane c.args.end bytes _ long
    (bitmask_splat w8 eqb bytes 16 c.args.end long (omega arith))
