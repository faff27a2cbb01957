-- Case-insensitive equality of characters, by the bit in which upper and lower case differ.
use Rattle.std.proofs.Common.{◌≡◌, ℕ, ◌+◌, ◌-◌, ◌*◌, ◌^◌, ◌<◌, ◌≤◌, ◌⊎◌, ◌∙◌, Bool, false, ◌==◌, bit_or, ap, sym, inl, inr, ⊎_elim, arith}
use Rattle.std.proofs.lemmas.Bool.{both_ways, or_from, and_right, ne_eqb, eq-eqb, cases_lt}
use Rattle.std.proofs.lemmas.Nat.{or_block}
use Rattle.std.proofs.lemmas.Str.Ascii.{lowercase_is}
use Rattle.std.specs.Char.{to_ascii_lowercase}
use Rattle.glob_pattern.specs.Grammar.Brackets.{is_same}
use Rattle.glob_text.specs.Characters.{slash}

pub lower_cases : (c : ℕ) → ((65 ≤ c) × (c ≤ 90) × (to_ascii_lowercase c ≡ c + 32)) ⊎ (((c < 65) ⊎ (90 < c)) × (to_ascii_lowercase c ≡ c))
lower_cases c =
    ⊎_elim (λ lt. inr (inl lt, (lowercase_is c).1 lt))
    (λ from. ⊎_elim (λ below. inl (omega arith, omega arith, (lowercase_is c).0 (omega arith, omega arith)))
    (λ above. inr (inr (omega arith), (lowercase_is c).2 (omega arith))) (cases_lt c 91))
    (cases_lt c 65)

-- case-sensitively or not, no other character is the same as `/`
pub same-slash : (case : Bool) (c : ℕ) → (c == slash) ≡ false → (is_same case slash c ≡ false) × (is_same case c slash ≡ false)
same-slash case c e =
    let lower = lower_cases c in
    let kept = lower_cases slash in (
      or_from (slash == c) _ (ne_eqb slash c (λ is. other (sym is))) (and_right _ (to_ascii_lowercase slash ==
          to_ascii_lowercase c) (ne_eqb _ _ (λ is. other (omega arith)))),
      or_from (c == slash) _ e (and_right _ (to_ascii_lowercase c == to_ascii_lowercase slash) (ne_eqb _ _ (λ is. other (omega arith)))),
    )
  where
    other : c ≡ slash → ⊥
    other is = both_ways (c == slash) e (eq-eqb c slash is)

-- with bit 5 set, an upper-case letter is its lower-case one
pub case_set : (c : ℕ) → bit_or c 32 ≡ bit_or (to_ascii_lowercase c) 32
case_set c =
    ⊎_elim
    (λ (from, to, small).
    let r = c - 64 in
    let large : c ≡ 2 * 2 ^ 5 + r = omega arith in
    let other : to_ascii_lowercase c ≡ 3 * 2 ^ 5 + r = omega arith in
    ap (λ n. bit_or n 32) large ∙ or_block 5 2 1 r 0 (omega arith) (omega arith) ∙ sym (ap (λ n. bit_or n 32) other
    ∙ or_block 5 3 1 r 0 (omega arith) (omega arith)))
    (λ (apart, same). ap (λ n. bit_or n 32) (sym same))
    (lower_cases c)

-- so the bits set are equal in both cases
pub case_set_same : (c x : ℕ) → to_ascii_lowercase c ≡ to_ascii_lowercase x → bit_or c 32 ≡ bit_or x 32
case_set_same c x e = case_set c ∙ ap (λ n. bit_or n 32) e ∙ sym (case_set x)
