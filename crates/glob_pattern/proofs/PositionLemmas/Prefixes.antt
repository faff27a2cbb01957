-- A split of all characters is a split by all shapes, one shape after another.
use Rattle.std.proofs.Common.{◌≡◌, ℕ, zero, suc, ◌+◌, ◌<◌, ◌≤◌, ◌↔◌, List, [], ◌∷◌, length, get_or, drop, sym, refl}
use Rattle.std.proofs.Common.{subst, subst₂, ◌∙◌, arith, add-one, drop-cons, zero-add}
use Rattle.std.proofs.lemmas.List.{drop_all}
use Rattle.glob_pattern.specs.Matching.Splits.{Table, SplitsFrom, Splits}
use Rattle.glob_pattern.specs.Private.Prefixes.{PrefixSplits}
use Rattle.glob_pattern.specs.declared.matcher.Shape.{Shape}
use Rattle.glob_pattern.specs.declared.matcher.Shape.TheVariants.{One}

-- a split by the first n shapes and a split by the others make a whole split
Splits-from_prefix : (table : Table) (shapes : List Shape) (n k : ℕ) → n ≤ length shapes → PrefixSplits table shapes n
    k → SplitsFrom table n (drop n shapes) k → Splits table shapes
unfolding PrefixSplits
Splits-from_prefix table shapes zero k _ start rest = subst (SplitsFrom table 0 shapes) start rest
Splits-from_prefix table shapes (suc n) k le prefix rest =
    let lt : n < length shapes = omega arith in
    let more : SplitsFrom table (n + 1) (drop (suc n) shapes) k = rw add-one rest in
    let here : SplitsFrom table n (get_or shapes n One ∷ drop (suc n) shapes) prefix.0 = (k, prefix.2, prefix.3, more) in
    Splits-from_prefix table shapes n prefix.0 (omega arith) prefix.1 (rw (drop-cons shapes n One) here)

-- a split by the first n shapes goes on over a split of the rest
PrefixSplits-over_rest : (table : Table) (shapes : List Shape) (rest : List Shape) (n k : ℕ) → drop n shapes ≡ rest
    → n + length rest ≡ length shapes → PrefixSplits table shapes n k → SplitsFrom table n rest k → PrefixSplits table
    shapes (length shapes) table.characters
unfolding PrefixSplits
PrefixSplits-over_rest table shapes [] n k _ count prefix at_end =
    let all : n ≡ length shapes = omega arith in
    subst₂ (PrefixSplits table shapes) all at_end prefix
PrefixSplits-over_rest table shapes (shape ∷ others) n k is count prefix (j, reach, takes, more) =
    let lt : n < length shapes = omega arith in
    let parts : get_or shapes n One ∷ drop (suc n) shapes ≡ shape ∷ others = sym (drop-cons shapes n One lt) ∙ is in
    let first : get_or shapes n One ≡ shape = cc in
    let after : drop (suc n) shapes ≡ others = cc in
    let next : PrefixSplits table shapes (suc n) j = (k, prefix, rw (first, after) reach, takes) in
    PrefixSplits-over_rest table shapes others (suc n) j after (omega arith) next (rw add-one at more)

-- a whole split is one by all shapes up to the last character
pub Splits-iff_prefix : (table : Table) (shapes : List Shape) → Splits table shapes ↔ PrefixSplits table shapes
    (length shapes) table.characters
unfolding PrefixSplits
Splits-iff_prefix table shapes = (
  λ split. PrefixSplits-over_rest table shapes shapes 0 0 refl (zero-add (length shapes)) refl split,
  λ prefix. Splits-from_prefix table shapes (length shapes) table.characters (omega arith) prefix
      (let le : length shapes ≤ length shapes = omega arith in rw drop_all refl),
)
