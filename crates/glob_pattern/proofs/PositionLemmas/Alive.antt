-- The positions alive at a place, from those alive one place before.
use Rattle.std.proofs.Common.{◌≡◌, ℕ, zero, suc, ◌+◌, ◌<◌, ◌≤◌, ◌≢◌, ◌⊎◌, ◌↔◌, List, [], length, get_or, drop, IsTrue}
use Rattle.std.proofs.Common.{sym, refl, ap, subst, inl, inr, ⊎_elim, arith, add-one, length-drop}
use Rattle.std.proofs.lemmas.Bool.{cases_eq}
use Rattle.std.proofs.lemmas.List.{drop_all}
use Rattle.glob_pattern.specs.Matching.Splits.{Table, TakesAll, MayReach}
use Rattle.glob_pattern.specs.Private.Prefixes.{PrefixSplits, IsAlive, HasTaken, IsAnyAlive}
use Rattle.glob_pattern.specs.declared.matcher.Shape.{Shape}
use Rattle.glob_pattern.specs.declared.matcher.Shape.TheVariants.{One, Run, Deep}

-- a nonempty piece of a `**` may end if it is the last shape or a component begins there
abbrev pub MayEnd : Table → List Shape → (n k : ℕ) → Type 0
MayEnd table shapes n k = (suc n ≡ length shapes) ⊎ IsTrue (table.opens k)

-- The two ways for position n to be alive, before the shape `shape`: the first n shapes split the characters before
-- place k, or the piece of `shape`, which may be longer than a character, has taken the last of them.
abbrev pub ComesAlive : Table → List Shape → (shape : Shape) → (n k : ℕ) → Type 0
ComesAlive table shapes shape n k = PrefixSplits table shapes n k ⊎ (HasTaken table shapes n k × (shape ≢ One))

-- The two ways to split with one more shape: its piece may be empty and is, or it has taken the last character and may
-- end there.
abbrev pub ComesWhole : Table → List Shape → (shape : Shape) → (n k : ℕ) → Type 0
ComesWhole table shapes shape n k =
    (PrefixSplits table shapes n k × (shape ≢ One))
    ⊎ (HasTaken table shapes n k × (shape ≡ Deep → MayEnd table shapes n k))

module _ (table : Table) (shapes : List Shape) (n : ℕ) where
  -- between a place and itself there is nothing to take
  TakesAll-none : (k : ℕ) → TakesAll table n k k
  TakesAll-none k j from below = absurd (omega arith)

  -- one more character is taken
  TakesAll-more : (i k : ℕ) → TakesAll table n i k → IsTrue (table.takes n k) → TakesAll table n i (suc k)
  TakesAll-more i k all here j from below =
      ⊎_elim (λ e. subst (λ x. IsTrue (table.takes n x)) (sym e) here) (λ ne. all j from (omega arith)) (cases_eq j k)

  -- one character fewer is taken
  TakesAll-fewer : (i k : ℕ) → TakesAll table n i (suc k) → TakesAll table n i k
  TakesAll-fewer i k all j from below = all j from (omega arith)

  -- a piece that may be longer than a character has taken all since it began
  HasTaken-since : get_or shapes n One ≢ One → (k i : ℕ) → i ≤ k → i ≢ k → PrefixSplits table shapes n i
      → TakesAll table n i k → HasTaken table shapes n k
  unfolding HasTaken IsAlive
  HasTaken-since grows zero i le ne prefix all = absurd (omega arith)
  HasTaken-since grows (suc k) i le ne prefix all =
      let before : i ≤ k = omega arith in
      ((i, before, prefix, TakesAll-fewer i k all, inr grows), all k before (omega arith))

  -- a piece begins and takes its first character
  HasTaken-first : (i : ℕ) → PrefixSplits table shapes n i → IsTrue (table.takes n i) → HasTaken table shapes n (suc i)
  unfolding HasTaken IsAlive
  HasTaken-first i prefix takes = ((i, omega arith, prefix, TakesAll-none i, inl refl), takes)

  -- a piece that has taken a character began at some place
  piece-from_taken : (k : ℕ) → HasTaken table shapes n k → (i : ℕ) × (i ≤ k) × PrefixSplits table shapes n i × TakesAll table n i k
  unfolding HasTaken IsAlive
  piece-from_taken zero none = absurd none
  piece-from_taken (suc k) ((i, le, prefix, all, here), takes) = (i, omega arith, prefix, TakesAll-more i k all takes)

  -- a piece of one character began right before it
  one-from_taken : get_or shapes n One ≡ One → (k : ℕ) → HasTaken table shapes n k → (i : ℕ) × (k ≡ i + 1)
      × PrefixSplits table shapes n i × TakesAll table n i k
  unfolding HasTaken IsAlive
  one-from_taken one zero none = absurd none
  one-from_taken one (suc k) ((i, le, prefix, all, here), takes) =
      let at : i ≡ k = ⊎_elim (λ e. e) (λ ne. absurd (ne one)) here in
      (i, omega arith, prefix, TakesAll-more i k all takes)

  -- the step of a position set: whether the first n shapes are alive
  pub IsAlive-step : (k : ℕ) → IsAlive table shapes n k ↔ ComesAlive table shapes (get_or shapes n One) n k
  unfolding IsAlive
  IsAlive-step k = (
    λ (i, le, prefix, all, here).
        ⊎_elim
        (λ e. inl (subst (PrefixSplits table shapes n) e prefix))
        (λ ne. ⊎_elim (λ e. absurd (ne e)) (λ grows. inr (HasTaken-since grows k i le ne prefix all, grows)) here)
        (cases_eq i k),
    λ parts.
        ⊎_elim
        (λ prefix. (k, omega arith, prefix, TakesAll-none k, inl refl))
        (λ (taken, grows). let (i, le, prefix, all) = piece-from_taken k taken in (i, le, prefix, all, inr grows))
        parts,
  )

  -- after the last shape there are no others
  last_has_no_others : n < length shapes → (suc n ≡ length shapes) ↔ (drop (suc n) shapes ≡ [])
  last_has_no_others lt = (
    λ e. let le : length shapes ≤ suc n = omega arith in rw drop_all refl,
    λ e. omega (arith, length-drop (suc n) shapes, ap length e),
  )

  -- a piece that reaches a place came there in one of the two ways
  ComesWhole-from_piece : (shape : Shape) → get_or shapes n One ≡ shape → n < length shapes → (i k : ℕ) → PrefixSplits
      table shapes n i → MayReach table shape (drop (suc n) shapes) i k → TakesAll table n i k → ComesWhole table
      shapes shape n k
  ComesWhole-from_piece One is lt i k prefix reach all =
      let e : suc i ≡ k = omega arith in
      inr (subst (HasTaken table shapes n) e (HasTaken-first i prefix (all i (omega arith) (omega arith))), λ deep. cc)
  ComesWhole-from_piece Run is lt i k prefix le all =
      ⊎_elim
      (λ e. inl (subst (PrefixSplits table shapes n) e prefix, λ one. cc))
      (λ ne. inr (HasTaken-since (λ one. cc) k i le ne prefix all, λ deep. cc))
      (cases_eq i k)
  ComesWhole-from_piece Deep is lt i k prefix (le, ends) all =
      ⊎_elim
      (λ e. inl (subst (PrefixSplits table shapes n) e prefix, λ one. cc))
      (λ ne. inr (HasTaken-since (λ one. cc) k i le ne prefix all, λ deep. may_end ne))
      (cases_eq i k)
    where
      may_end : i ≢ k → MayEnd table shapes n k
      may_end ne =
          ⊎_elim
          (λ last. inl ((last_has_no_others lt).1 last))
          (⊎_elim (λ e. absurd (ne (sym e))) (λ opening. inr opening))
          ends

  -- and in either of the two ways a piece reaches it
  piece-from_ComesWhole : (shape : Shape) → get_or shapes n One ≡ shape → n < length shapes → (k : ℕ)
      → ComesWhole table shapes shape n k → (i : ℕ) × PrefixSplits table shapes n i × MayReach table shape
      (drop (suc n) shapes) i k × TakesAll table n i k
  piece-from_ComesWhole One is lt k (inl (prefix, grows)) = absurd (grows refl)
  piece-from_ComesWhole Run is lt k (inl (prefix, grows)) = (k, prefix, omega arith, TakesAll-none k)
  piece-from_ComesWhole Deep is lt k (inl (prefix, grows)) = (k, prefix, (omega arith, inr (inl refl)), TakesAll-none k)
  piece-from_ComesWhole One is lt k (inr (taken, ends)) =
      let (i, e, prefix, all) = one-from_taken is k taken in (i, prefix, e, all)
  piece-from_ComesWhole Run is lt k (inr (taken, ends)) =
      let (i, le, prefix, all) = piece-from_taken k taken in (i, prefix, le, all)
  piece-from_ComesWhole Deep is lt k (inr (taken, ends)) =
      let (i, le, prefix, all) = piece-from_taken k taken in
      let end = ⊎_elim (λ last. inl ((last_has_no_others lt).0 last)) (λ opening. inr (inr opening)) (ends refl) in
      (i, prefix, (le, end), all)

  -- the step of a position set: whether the first n shapes and the next are whole
  pub PrefixSplits-step : n < length shapes → (k : ℕ) → PrefixSplits table shapes (suc n) k ↔ ComesWhole table shapes
      (get_or shapes n One) n k
  unfolding PrefixSplits
  PrefixSplits-step lt k = (
    λ (i, prefix, reach, all). ComesWhole-from_piece (get_or shapes n One) refl lt i k prefix reach all,
    piece-from_ComesWhole (get_or shapes n One) refl lt k,
  )

module _ (table : Table) (shapes : List Shape) where
  -- what is whole at a place comes from what was alive at the place before
  PrefixSplits-before : (n k : ℕ) → n ≤ length shapes → PrefixSplits table shapes n (suc k) → (m : ℕ) × (m < n) × IsAlive table shapes m k
  unfolding PrefixSplits HasTaken
  PrefixSplits-before zero k le end = absurd (omega arith)
  PrefixSplits-before (suc n) k le prefix =
      ⊎_elim
      (λ (fewer, grows). let (m, lt, was) = PrefixSplits-before n k (omega arith) fewer in (m, omega (arith, lt), was))
      (λ (taken, ends). (n, omega arith, taken.0))
      ((PrefixSplits-step table shapes n (omega arith) (suc k)).0 prefix)

  -- if something is alive, something was at the place before
  pub IsAnyAlive-before : (end k : ℕ) → end ≤ length shapes → IsAnyAlive table shapes end (suc k) → IsAnyAlive table shapes end k
  unfolding HasTaken
  IsAnyAlive-before end k within (inl (n, lt, alive)) = inl (⊎_elim
      (λ whole. let (m, before, was) = PrefixSplits-before n k (omega (arith, lt, within)) whole in (m, omega (arith, before, lt), was))
      (λ (taken, grows). (n, lt, taken.0))
      ((IsAlive-step table shapes n (suc k)).0 alive))
  IsAnyAlive-before end k within (inr whole) = inl (PrefixSplits-before end k within whole)

  -- As long as something is alive, each character is asked about: the one before place k + 1 raised the count from
  -- `old` to `new`.
  pub asked_more : (end first k next old new : ℕ) → end ≤ length shapes → next ≡ k + 1 → (IsAnyAlive table shapes end next → old < new)
      → (IsAnyAlive table shapes end k → first + k ≤ old) → IsAnyAlive table shapes end next → first + next ≤ new
  asked_more end first k next old new within at more before any =
      omega (arith, more any, before (IsAnyAlive-before end k within (rw (at, add-one) at any)))

  -- no shapes split only the empty prefix
  pub PrefixSplits-none : (k : ℕ) → 0 < k → ¬ (PrefixSplits table shapes 0 k)
  unfolding PrefixSplits
  PrefixSplits-none k later h = omega (arith, later, h)

  -- if the first m shapes are not whole, and no token from there on has taken the last character, no more are whole
  pub none_whole : (k m n : ℕ) → m ≤ n → n ≤ length shapes → ¬ (PrefixSplits table shapes m k) → ((t : ℕ) → m ≤ t
      → t < n → ¬ (HasTaken table shapes t k)) → ¬ (PrefixSplits table shapes n k)
  none_whole k m zero le within none taken h = none (let e : zero ≡ m = omega (arith, le) in subst (λ x. PrefixSplits table shapes x k) e h)
  none_whole k m (suc n) le within none taken h =
      let step : PrefixSplits table shapes (suc n) k ↔ ComesWhole table shapes (get_or shapes n One) n k =
      PrefixSplits-step table shapes n (omega (arith, within)) k in
      ⊎_elim
      (λ e. none (subst (λ x. PrefixSplits table shapes x k) (sym e) h))
      (λ ne.
      let before : m ≤ n = omega (arith, le, ne) in
      ⊎_elim
      (λ (w, grows). none_whole k m n before (omega (arith, within)) none (λ t from below. taken t from (omega (arith, below))) w)
      (λ (t, ends). taken n before (omega arith) t)
      (step.0 h))
      (cases_eq m (suc n))

  -- before the first character no token has taken one
  pub HasTaken-none : (n : ℕ) → ¬ (HasTaken table shapes n 0)
  unfolding HasTaken
  HasTaken-none n taken = taken
