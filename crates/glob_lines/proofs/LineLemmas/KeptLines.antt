-- The records that satisfy a predicate: after one more record, in a prefix, and that there is exactly one list of them.
use Rattle.std.proofs.Common.{◌≡◌, ℕ, ◌⊎◌, inl, inr, List, [], ◌∷◌, ◌++◌, refl, sym, ap, ◌∙◌, subst, append-nil}
use Rattle.glob_lines.specs.Lines.{AreKept}

-- more records after these
pub AreKept-append : (P : List ℕ → Type 0) (records more kept others : List (List ℕ)) → AreKept P records kept → AreKept P more others
    → AreKept P (records ++ more) (kept ++ others)
AreKept-append P [] more kept others are later = subst (AreKept P more) (ap (λ l. l ++ others) (sym are)) later
AreKept-append P (x ∷ xs) more kept others (inl (here, (rest, is, are))) later =
    inl (here, (rest ++ others, ap (λ l. l ++ others) is, AreKept-append P xs more rest others are later))
AreKept-append P (x ∷ xs) more kept others (inr (not_here, are)) later = inr (not_here, AreKept-append P xs more kept others are later)

-- one more record, which is kept
pub AreKept-push : (P : List ℕ → Type 0) (records kept : List (List ℕ)) (one : List ℕ) → AreKept P records kept → P one
    → AreKept P (records ++ one ∷ []) (kept ++ one ∷ [])
AreKept-push P records kept one are holds = AreKept-append P records (one ∷ []) kept (one ∷ []) are (inl (holds, ([], refl, refl)))

-- one more record, which is not kept
pub AreKept-pass : (P : List ℕ → Type 0) (records kept : List (List ℕ)) (one : List ℕ) → AreKept P records kept → ¬ (P one)
    → AreKept P (records ++ one ∷ []) kept
AreKept-pass P records kept one are fails =
    subst (AreKept P (records ++ one ∷ [])) (append-nil kept) (AreKept-append P records (one ∷ []) kept [] are (inr (fails, refl)))

-- what is kept of a front of the records is first
pub AreKept-front : (P : List ℕ → Type 0) (front more kept_front kept : List (List ℕ)) → AreKept P front kept_front
    → AreKept P (front ++ more) kept
    → (others : List (List ℕ)) × (kept ≡ kept_front ++ others) × AreKept P more others
AreKept-front P [] more kept_front kept are all = (kept, ap (λ l. l ++ kept) (sym are), all)
AreKept-front P (x ∷ xs) more kept_front kept (inl (here, (first, is, are))) (inl (_, (rest, all_is, all))) =
    let (others, split, later) = AreKept-front P xs more first rest are all in
    (others, all_is ∙ ap (λ l. x ∷ l) split ∙ ap (λ l. l ++ others) (sym is), later)
AreKept-front P (x ∷ xs) more kept_front kept (inl (here, (first, is, are))) (inr (not_here, all)) = absurd (not_here here)
AreKept-front P (x ∷ xs) more kept_front kept (inr (not_here, are)) (inl (here, (rest, all_is, all))) = absurd (not_here here)
AreKept-front P (x ∷ xs) more kept_front kept (inr (_, are)) (inr (_, all)) = AreKept-front P xs more kept_front kept are all

-- there is such a list if each record is decided
pub AreKept-exists : (P : List ℕ → Type 0) → ((one : List ℕ) → P one ⊎ (¬ (P one))) → (records : List (List ℕ)) →
    (kept : List (List ℕ)) × AreKept P records kept
AreKept-exists P decided [] = ([], refl)
AreKept-exists P decided (x ∷ xs) =
    let (others, are) = AreKept-exists P decided xs in
    elim (decided x) [
      | inl here ↦ (x ∷ others, inl (here, (others, refl, are)))
      | inr not_here ↦ (others, inr (not_here, are))
    ]

-- a test that holds of the same records keeps the same
pub AreKept-same : (P Q : List ℕ → Type 0) → ((one : List ℕ) → P one → Q one) → ((one : List ℕ) → Q one → P one) →
    (records kept : List (List ℕ)) → AreKept P records kept → AreKept Q records kept
AreKept-same P Q to from [] kept are = are
AreKept-same P Q to from (x ∷ xs) kept (inl (here, (others, is, are))) = inl
    (to x here, (others, is, AreKept-same P Q to from xs others are))
AreKept-same P Q to from (x ∷ xs) kept (inr (not_here, are)) = inr (λ q. not_here (from x q), AreKept-same P Q to from xs kept are)
