-- Words of 63 shapes after a character, given the tokens that took it.
use Rattle.std.proofs.Common.{◌≡◌, ℕ, zero, suc, ◌+◌, ◌-◌, ◌*◌, ◌%◌, ◌^◌, ◌<◌, ◌≤◌, ◌≢◌, ◌⊎◌, ◌↔◌, Bool, false, IsTrue}
use Rattle.std.proofs.Common.{nat_eq, not, List, [], ◌∷◌, length, get_or, set, bit_and, bit_or, sym, subst}
use Rattle.std.proofs.Common.{get_or-set_other, get_or-set_same, ◌/◌, inl, inr, ⊎_elim, arith, add-zero, add-suc}
use mir.Val.{bool_byte}
use Rattle.std.specs.Int.Count.{ones}
use Rattle.std.proofs.lemmas.Bool.{cases_eq, eqb-true, eq-eqb, eqb-false, ne_eqb, not-true, false≢true}
use Rattle.std.proofs.lemmas.Nat.{zero_from_ones}
use Rattle.glob_pattern.specs.Matching.Splits.{Table}
use Rattle.glob_pattern.specs.Private.Prefixes.{PrefixSplits, IsAlive, HasTaken, IsAnyAlive}
use Rattle.std.specs.Int.{IsBitSet}
use Rattle.glob_pattern.specs.Private.Positions.{word_end, IsShapeWord, IsAliveWord, IsTakenWord, AreAlive}
use Rattle.glob_pattern.proofs.PositionLemmas.Alive.{MayEnd, ComesAlive, ComesWhole, IsAlive-step, PrefixSplits-step, HasTaken-none}
use Rattle.glob_pattern.proofs.PositionLemmas.DeadPlaces.{dead-later}
use Rattle.glob_pattern.proofs.PositionLemmas.Spreading.{spread}
use Rattle.glob_pattern.proofs.BitLemmas.SetBits.{IsBitSet-cases, IsBitSet-or, IsBitSet-and, IsBitSet-zero}
use Rattle.glob_pattern.proofs.BitLemmas.SetBits.{IsBitSet-spread_low, IsBitSet-spread_next, IsBitSet-moved_low}
use Rattle.glob_pattern.proofs.BitLemmas.SetBits.{IsBitSet-moved_next, bit_below, highest_set}
use Rattle.glob_pattern.proofs.BitLemmas.LowestBits.{ones_within}
use Rattle.glob_pattern.specs.declared.matcher.Shape.{Shape}
use Rattle.glob_pattern.specs.declared.matcher.Shape.TheVariants.{One, Deep}
use Rattle.glob_pattern.specs.declared.matcher.shape_word.ShapeWord.{ShapeWord}

-- the positions that pieces end at, and the first if those before are whole
abbrev pub begun_of : (ending : ℕ) (whole : Bool) → ℕ
begun_of ending whole = bit_or (ending * 2 ^ 1 % 2 ^ 64) (bool_byte whole)

-- whether no shapes split the characters, at the start and later
pub whole-at_start : (table : Table) (shapes : List Shape) (k : ℕ) → IsTrue (nat_eq k 0) ↔ PrefixSplits table shapes 0 k
unfolding PrefixSplits
whole-at_start table shapes k = (λ t. eqb-true k 0 t, λ h. eq-eqb k 0 h)

pub whole-later : (table : Table) (shapes : List Shape) (k : ℕ) → 0 < k → IsTrue false ↔ PrefixSplits table shapes 0 k
unfolding PrefixSplits
whole-later table shapes k later = (λ t. absurd (false≢true t), λ h. absurd (omega (arith, h)))

module _ (table : Table) (shapes : List Shape) (end start : ℕ) (word : ShapeWord) (from : start ≤ end) (fits : end ≤ length shapes)
    (are : IsShapeWord shapes end start word) where
  -- only tokens of the word are asked
  pub asked-in_word : (alive : ℕ) → alive < 2 ^ 64 → (j : ℕ) → IsBitSet (bit_and alive word.tokens) j → (j < 63) × (start + j < end)
  asked-in_word alive short j set =
      let both = (IsBitSet-and alive word.tokens j).0 set in
      let within = (are.tokens j (bit_below alive j short both.0)).0 both.1 in (omega arith, omega arith)

  pub ones-in_word : (alive : ℕ) → alive < 2 ^ 64 → ones (bit_and alive word.tokens) ≤ word_end end start - start
  ones-in_word alive short = ones_within (word_end end start - start) (bit_and alive word.tokens)
      (λ j set. let within = asked-in_word alive short j set in omega arith)

  module _ (p alive took : ℕ) (answers : (j : ℕ) → j < 64 → IsBitSet took j ↔ (IsBitSet (bit_and alive word.tokens) j
      × IsTrue (table.takes (start + j) (p - 1)))) where
    -- the answers of the tokens that are alive
    pub IsTakenWord-asked : 0 < p → IsAliveWord table shapes end start (p - 1) alive → IsTakenWord table shapes end start p took
    unfolding HasTaken
    IsTakenWord-asked later says =
        let back : suc (p - 1) ≡ p = omega arith in
        let taken : IsTakenWord table shapes end start (suc (p - 1)) took = record {
          taken = λ j within.
              let here = says.alive j within in
              let answer = answers j (omega arith) in
              let and = IsBitSet-and alive word.tokens j in
              let token = are.tokens j (omega arith) in (
                λ s. let (a, t) = answer.0 s in (here.0 (and.0 a).0, t),
                λ (a, t). answer.1 (and.1 (here.1 a, token.1 within), t),
              );
        } in
        subst (λ q. IsTakenWord table shapes end start q took) back taken

    -- tokens that were not asked have not taken the character
    pub none-taken_unasked : IsTakenWord table shapes end start p took → ones (bit_and alive word.tokens) ≡ 0
        → (n : ℕ) → start ≤ n → n < word_end end start → HasTaken table shapes n p → ⊥
    none-taken_unasked taken none n le lt t =
        let at : start + (n - start) ≡ n = omega arith in
        let set = (taken.taken (n - start) (omega arith)).1 (rw at t) in
        IsBitSet-zero (n - start) (rw (zero_from_ones (bit_and alive word.tokens) none) at ((answers (n - start) (omega arith)).0 set).0)

  module _ (k took ending : ℕ) (opens whole : Bool) (taken : IsTakenWord table shapes end start k took) (at : opens ≡ table.opens k)
      (first : IsTrue whole ↔ PrefixSplits table shapes start k)
      (ends : (j : ℕ) → j < 64 → IsBitSet ending j ↔ (IsBitSet took j × (IsTrue opens ⊎ (IsBitSet word.recursive j → ⊥)))) where
    wildcards-are : (j : ℕ) → start + j < word_end end start → IsBitSet word.wildcards j ↔ (get_or shapes (start + j) One ≢ One)
    wildcards-are j within = let grows = are.wildcards j (omega arith) in (λ h. (grows.0 h).1, λ ne. grows.1 (within, ne))

    -- the tokens of the word whose pieces may end
    ending-may : (j : ℕ) → start + j < word_end end start
        → IsBitSet ending j ↔ (HasTaken table shapes (start + j) k × (get_or shapes (start + j) One ≡ Deep
        → MayEnd table shapes (start + j) k))
    ending-may j within =
        let bound = are.recursive j (omega arith) in
        let token = taken.taken j within in
        let ending_bit = ends j (omega arith) in (
          λ h. (
            token.0 (ending_bit.0 h).0,
            λ deep. ⊎_elim (λ here. inr (rw at at here))
                (λ free. inl (last (λ more. free (bound.1 (within, deep, more))))) (ending_bit.0 h).1,
          ),
          λ (took_it, may). ending_bit.1 (
            token.1 took_it,
            ⊎_elim (λ set. ⊎_elim (λ e. absurd (let lim =
                (bound.0 set).2 in omega arith)) (λ here. inl (rw at here)) (may (bound.0 set).1)) inr
                (IsBitSet-cases word.recursive j),
          ),
        )
      where
        last : (start + j + 1 < length shapes → ⊥) → suc (start + j) ≡ length shapes
        last none = ⊎_elim (λ e. e) (λ ne. absurd (none (omega arith))) (cases_eq (suc (start + j)) (length shapes))

    spread-whole : (j : ℕ) → start + j ≤ word_end end start
        → IsBitSet (spread (begun_of ending whole) word.wildcards 0) j ↔ PrefixSplits table shapes (start + j) k
    spread-whole zero within =
        let s = IsBitSet-spread_low (begun_of ending whole) word.wildcards in
        let low = IsBitSet-moved_low ending whole in
        rw (add-zero start) (λ h. first.0 (low.0 (s.0 h)), λ h. s.1 (low.1 (first.1 h)))
    spread-whole (suc j) within =
        let n_lt : start + j < word_end end start = omega arith in
        let s = IsBitSet-spread_next (begun_of ending whole) word.wildcards j in
        let next = IsBitSet-moved_next ending whole j (omega arith) in
        let ih = spread-whole j (omega arith) in
        let grows = wildcards-are j n_lt in
        let ended = ending-may j n_lt in
        let step : PrefixSplits table shapes (suc (start + j)) k ↔ ComesWhole table shapes (get_or shapes (start + j) One)
        (start + j) k = PrefixSplits-step table shapes (start + j) (omega (arith, n_lt, fits)) k in
        rw add-suc (
          λ h. step.1 (⊎_elim (λ b. inr (ended.0 (next.0 b))) (λ (g, c). inl (ih.0 c, grows.0 g)) (s.0 h)),
          λ h. s.1 (⊎_elim (λ (w, g). inr (grows.1 g, ih.1 w)) (λ e. inl (next.1 (ended.1 e))) (step.0 h)),
        )

    closed-whole : (closed : ℕ) → ((j : ℕ) → j < 64 → IsBitSet closed j ↔ IsBitSet (spread (begun_of ending whole) word.wildcards 0) j)
        → (j : ℕ) → start + j ≤ word_end end start → IsBitSet closed j ↔ PrefixSplits table shapes (start + j) k
    closed-whole closed spreads j within =
        let same = spreads j (omega arith) in
        let prefix = spread-whole j within in
        (λ h. prefix.0 (same.0 h), λ h. same.1 (prefix.1 h))

    -- what the word says after the character; `closed` has the positions that have begun and those they spread to
    pub IsAliveWord-stepped : (closed : ℕ) → ((j : ℕ) → j < 64 → IsBitSet closed j ↔ IsBitSet
        (spread (begun_of ending whole) word.wildcards 0) j)
        → IsAliveWord table shapes end start k (bit_or (bit_and took word.wildcards) closed)
    IsAliveWord-stepped closed spreads = record {
      alive = λ j within.
          let or = IsBitSet-or (bit_and took word.wildcards) closed j in
          let and = IsBitSet-and took word.wildcards j in
          let step : IsAlive table shapes (start + j) k ↔ ComesAlive table shapes (get_or shapes (start + j) One)
          (start + j) k = IsAlive-step table shapes (start + j) k in
          let prefix = closed-whole closed spreads j (omega arith) in
          let grows = wildcards-are j within in
          let token = taken.taken j within in (
            λ h. step.1 (⊎_elim (λ s. let b = and.0 s in inr (token.0 b.0, grows.0 b.1)) (λ c. inl (prefix.0 c)) (or.0 h)),
            λ h. or.1 (⊎_elim (λ w. inr (prefix.1 w)) (λ (t, g). inl (and.1 (token.1 t, grows.1 g))) (step.0 h)),
          );
      whole = λ j e.
          let or = IsBitSet-or (bit_and took word.wildcards) closed j in
          let and = IsBitSet-and took word.wildcards j in
          let prefix = rw e at (closed-whole closed spreads j (omega arith)) in (
            λ h. ⊎_elim (λ s. absurd (let past = ((are.wildcards j (omega arith)).0 (and.0 s).1).0 in omega arith))
                (λ c. prefix.0 c) (or.0 h),
            λ w. or.1 (inr (prefix.1 w)),
          );
    }

module _ (table : Table) (shapes : List Shape) (end k n : ℕ) (alive : List ℕ) where
  -- one more word
  pub AreAlive-set : (w : ℕ) → AreAlive table shapes end k 0 n alive → n < length alive → IsAliveWord table shapes end (63 * n) k w
      → AreAlive table shapes end k 0 (n + 1) (set alive n w)
  AreAlive-set w part lt here = record {
    word = λ i le below.
        ⊎_elim
        (λ e. let at : get_or (set alive n w) i 0 ≡ w = rw e (get_or-set_same alive n w 0 lt) in rw at
        (subst (λ j. IsAliveWord table shapes end (63 * j) k w) (sym e) here))
        (λ ne. rw (get_or-set_other alive n i w 0 ne) (part.word i (omega arith) (omega arith)))
        (cases_eq i n);
  }

  -- one word fewer is left
  pub AreAlive-left : (w high : ℕ) → AreAlive table shapes end k n high alive → AreAlive table shapes end k (n + 1) high (set alive n w)
  AreAlive-left w high rest = record {
    word = λ i le below.
        let ne : i ≢ n = omega arith in
        rw (get_or-set_other alive n i w 0 ne) (rest.word i (omega arith) below);
  }

  -- the last bit of the word before says whether the shapes before this word are whole
  pub carry-whole : AreAlive table shapes end k 0 n alive → 0 < n → 63 * n ≤ end → (last : ℕ) → last < 2 ^ 64
      → last ≡ get_or alive (n - 1) 0 → IsTrue (not (nat_eq (last / 2 ^ 63) 0)) ↔ PrefixSplits table shapes (63 * n) k
  carry-whole part some le last fits at =
      let start : 63 * (n - 1) + 63 ≡ 63 * n = omega arith in
      let border : word_end end (63 * (n - 1)) ≡ 63 * n = omega arith in
      let before = rw (sym at) at (part.word (n - 1) (omega arith) (omega arith)) in
      let bit = before.whole 63 (omega (arith, start, border)) in
      let high = highest_set last fits in (
        λ t. rw (← border) (bit.0 (high.0 (eqb-false (last / 2 ^ 63) 0 (not-true (nat_eq (last / 2 ^ 63) 0) t)))),
        λ w. rw (ne_eqb (last / 2 ^ 63) 0 (high.1 (bit.1 (rw border w)))) cc,
      )

-- before the first character no token has taken one
pub IsTakenWord-none : (table : Table) (shapes : List Shape) (end start : ℕ) → IsTakenWord table shapes end start 0 0
IsTakenWord-none table shapes end start = record {
  taken = λ j within.
      (λ set. absurd (IsBitSet-zero j set), λ taken. absurd (HasTaken-none table shapes (start + j) taken));
}

module _ (table : Table) (shapes : List Shape) (end k : ℕ) (alive : List ℕ)
    (says : AreAlive table shapes end k 0 (length alive) alive) where
  -- the bit of the position after the last shape says whether all are whole
  pub end-in_word : (i j : ℕ) → i < length alive → 63 * i + j ≡ end → j ≤ 63
      → IsBitSet (get_or alive i 0) j ↔ PrefixSplits table shapes end k
  end-in_word i j lt at few =
      let border : word_end end (63 * i) ≡ end = omega (arith, at, few) in
      rw border at ((says.word i (omega arith) lt).whole j (omega (arith, at, border)))

  -- if all words are 0, nothing is alive
  none-in_words : end ≤ 63 * length alive → 0 < length alive → ((i : ℕ) → i < length alive → get_or alive i 0 ≡ 0)
      → ¬ (IsAnyAlive table shapes end k)
  none-in_words all some none (inl (n, lt, here)) =
      let at : 63 * (n / 63) + n % 63 ≡ n = omega arith in
      let word = says.word (n / 63) (omega arith) (omega (arith, lt, all)) in
      let bit = (rw at at (word.alive (n % 63) (omega (arith, at, lt)))).1 here in
      IsBitSet-zero (n % 63) (rw (none (n / 63) (omega (arith, lt, all))) at bit)
  none-in_words all some none (inr whole) =
      let i = (end - 1) / 63 in
      let bit = (end-in_word i (end - 63 * i) (omega (arith, all, some)) (omega arith) (omega arith)).1 whole in
      IsBitSet-zero (end - 63 * i) (rw (none i (omega (arith, all, some))) at bit)

  -- so the position at the end is not alive
  pub none-at_end : end ≤ length shapes → end ≤ 63 * length alive → 0 < length alive → ((i : ℕ) → i < length alive → get_or alive i 0 ≡ 0)
      → k ≤ table.characters
      → ¬ (PrefixSplits table shapes end table.characters)
  none-at_end within all some none le whole =
      let later : table.characters - k + k ≡ table.characters = omega (arith, le) in
      dead-later table shapes end within (table.characters - k) k (none-in_words all some none) (inr (rw later whole))

-- a single word
pub AreAlive-alone : (table : Table) (shapes : List Shape) (end k word : ℕ) → IsAliveWord table shapes end 0 k word
    → AreAlive table shapes end k 0 1 (word ∷ [])
AreAlive-alone table shapes end k word says = record {
  word = λ i le lt. let e : i ≡ 0 = omega (arith, lt) in subst (λ m. IsAliveWord table shapes end (63 * m) k (get_or (word ∷ []) m 0))
      (sym e) says;
}
