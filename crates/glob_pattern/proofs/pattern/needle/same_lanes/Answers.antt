use Rattle.std.proofs.Common.{◌≡◌, ℕ, ◌+◌, ◌-◌, ◌/◌, ◌%◌, ◌^◌, ◌<◌, ◌==◌, Bool, true, false, List, length, get_or, take}
use Rattle.std.proofs.Common.{drop, map, cond, eqb, bit_or, replicate, ap, ◌∙◌, arith, w8}
use Rattle.std.proofs.lemmas.Bool.{eq-eqb}
use Rattle.std.proofs.lemmas.List.{get_or-map, length-map}
use Rattle.std.proofs.lemmas.Nat.{shr-shr}
use Rattle.std.proofs.lemmas.Simd.{length-chunk, get_or-chunk, zip2_splat, map-map, bit_mask_l, bitmask_splat}
use Rattle.std.specs.Int.{bit_at}
use Rattle.std.specs.Simd.Lanes.{mask_l, zip2}
use Rattle.glob_pattern.proofs.MatchingLemmas.Case.{case_set_same}
use Rattle.glob_pattern.proofs.pattern.needle.same_lanes.Goals as goal

-- bit k of the lanes shifted by s is lane s + k
shifted_bit : (p : ℕ → Bool) (xs : List ℕ) (s k : ℕ) → s + k < length xs → p (get_or xs (s + k) 0) ≡ true → bit_at
    (mask_l (map p xs) / 2 ^ s) k ≡ 1
shifted_bit p xs s k within passes =
    ap (λ n. n % 2) (shr-shr (mask_l (map p xs)) s k) ∙ bit_mask_l (map p xs) (s + k)
    ∙ ap (λ b. cond b 1 0) (get_or-map p xs (s + k) 0 false within ∙ passes)

pub returns : goal.returns
returns c = record {
  each = λ k few within same.
      let bytes = c.args.bytes.now in
      let start = c.min-start.result in
      let s : ℕ = c.args.from - start in
      let chunk = take 16 (drop start bytes) in
      let y = bit_or c.args.x 32 in
      let long : length chunk ≡ 16 = length-chunk start 16 bytes (omega arith) in
      let set : zip2 bit_or chunk (replicate 16 32) ≡ map (λ b. bit_or b 32) chunk = zip2_splat bit_or chunk 16 32 long in
      let at : start + (s + k) ≡ c.args.from + k = omega arith in
      let byte : get_or chunk (s + k) 0 ≡ get_or bytes (c.args.from + k) 0 = get_or-chunk start 16 bytes (s + k) 0
      (omega arith) ∙ ap (λ i. get_or bytes i 0) at in
      ap (λ m. bit_at (m / 2 ^ s) k)
      (bitmask_splat w8 eqb (zip2 bit_or chunk (replicate 16 32)) 16 y (ap length set ∙ length-map chunk
      (λ b. bit_or b 32) ∙ long) (omega arith)
      ∙ ap (λ bs. mask_l (map (λ b. b == y) bs)) set ∙ ap mask_l (map-map (λ b. b == y) (λ b. bit_or b 32) chunk))
      ∙ shifted_bit (λ b. bit_or b 32 == y) chunk s k (omega arith) (eq-eqb _ y (ap (λ b. bit_or b 32) byte
      ∙ case_set_same (get_or bytes (c.args.from + k) 0) c.args.x same));
}
