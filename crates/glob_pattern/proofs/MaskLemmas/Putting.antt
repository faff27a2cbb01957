-- Masks with one more bit, and with the bits of more classes.
use Rattle.std.proofs.Common.{◌≡◌, ◌↔◌, ◌⊎◌, ℕ, Bool, true, false, ◌||◌, refl, inl, inr, ⊎_elim}
use Rattle.std.proofs.lemmas.Bool.{false≢true}
use Rattle.std.specs.Int.{IsBitSet}
use Rattle.glob_pattern.specs.Private.CharMasks.{IsWith}

-- a bit that is off changes nothing
pub with_none : (mask bit : ℕ) → IsWith mask mask bit false
with_none mask bit = record { bits = λ j. (inl, λ h. ⊎_elim (λ s. s) (λ (_, f). absurd (false≢true f)) h) }

-- a bit that is on is set, too
pub with_one : {old new bit : ℕ} → ((j : ℕ) → IsBitSet new j ↔ (IsBitSet old j ⊎ (j ≡ bit))) → IsWith old new bit true
with_one with = record {
  bits = λ j. (
    λ s. ⊎_elim inl (λ e. inr (e, refl)) ((with j).0 s),
    λ h. (with j).1
        (⊎_elim inl (λ (e, _). inr e) h),
  );
}

-- listing more characters keeps those listed before
pub IsWith-after : (old between new bit : ℕ) (p q : Bool) → IsWith old between bit p → IsWith between new bit q
    → IsWith old new bit (p || q)
IsWith-after old between new bit true q first second = record {
  bits = λ j. (
    λ s. ⊎_elim (λ b. (⊎_elim inl (λ (e, _). inr (e, refl)) ((first.bits j).0 b))) (λ (e, _). inr (e, refl)) ((second.bits j).0 s),
    λ h. (second.bits j).1 (inl ((first.bits j).1 h)),
  );
}
IsWith-after old between new bit false q first second = record {
  bits = λ j. (
    λ s. ⊎_elim (λ b. inl (⊎_elim (λ o. o) (λ (_, f). absurd (false≢true f)) ((first.bits j).0 b))) inr ((second.bits j).0 s),
    λ h. (second.bits j).1 (⊎_elim (λ o. inl ((first.bits j).1 (inl o))) inr h),
  );
}
