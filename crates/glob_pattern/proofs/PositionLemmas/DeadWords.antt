-- Words with nothing alive: they take nothing, and stay so unless the shapes before them split the characters so far.
use Rattle.std.proofs.Common.{◌≡◌, ℕ, zero, suc, ◌+◌, ◌-◌, ◌*◌, ◌/◌, ◌<◌, ◌≤◌, ◌↔◌, List, length, get_or, set, ⊎_elim}
use Rattle.std.proofs.Common.{◌^◌, sym, arith, length-set, get_or-set_other, get_or-set_same}
use Rattle.std.proofs.lemmas.Bool.{cases_lt, false≢true}
use Rattle.glob_pattern.specs.Matching.Splits.{Table}
use Rattle.glob_pattern.specs.Private.Prefixes.{PrefixSplits, IsAlive, HasTaken}
use Rattle.glob_pattern.specs.Private.Positions.{word_end, IsAliveWord, AreAlive, IsLive, WereAsked}
use Rattle.glob_pattern.proofs.BitLemmas.SetBits.{IsBitSet-zero}
use Rattle.glob_pattern.proofs.PositionLemmas.Alive.{ComesAlive, IsAlive-step, none_whole}
use Rattle.glob_pattern.proofs.PositionLemmas.Words.{AreAlive-set, carry-whole}
use Rattle.glob_pattern.specs.declared.matcher.Shape.{Shape}
use Rattle.glob_pattern.specs.declared.matcher.Shape.TheVariants.{One}

module _ (table : Table) (shapes : List Shape) (end : ℕ) where
  -- the tokens of such a word have taken nothing
  pub none-taken : (start k : ℕ) → IsAliveWord table shapes end start (k - 1) 0 → (t : ℕ) → start ≤ t → t < word_end end start
      → ¬ (HasTaken table shapes t k)
  unfolding HasTaken
  none-taken start zero says t from below taken = taken
  none-taken start (suc k) says t from below (alive, takes) =
      let at : start + (t - start) ≡ t = omega (arith, from) in
      let back : suc k - 1 ≡ k = omega arith in
      let before = rw back at says in
      IsBitSet-zero (t - start) ((before.alive (t - start) (omega (arith, at, below))).1 (rw at alive))

  -- the tokens of several such words have taken nothing
  pub none-taken_in_words : (alive : List ℕ) (low high k : ℕ) → AreAlive table shapes end (k - 1) low high alive
      → ((i : ℕ) → low ≤ i → i < high → get_or alive i 0 ≡ 0)
      → (t : ℕ) → 63 * low ≤ t → t < 63 * high → t < end → ¬ (HasTaken table shapes t k)
  none-taken_in_words alive low high k says zeros t from below within =
      let le : low ≤ t / 63 = omega (arith, from) in
      let lt : t / 63 < high = omega (arith, below) in
      none-taken (63 * (t / 63)) k (rw (zeros (t / 63) le lt) at (says.word (t / 63) le lt)) t (omega arith) (omega (arith, within))

  -- a word is 0 if its tokens have taken nothing and the shapes before it do not split the characters so far
  pub IsAliveWord-zero : (start k : ℕ) → start ≤ end → end ≤ length shapes → ¬ (PrefixSplits table shapes start k)
      → ((t : ℕ) → start ≤ t → t < word_end end start → ¬ (HasTaken table shapes t k))
      → IsAliveWord table shapes end start k 0
  IsAliveWord-zero start k from fits none taken = record {
    alive = λ j within.
        let step : IsAlive table shapes (start + j) k ↔ ComesAlive table shapes (get_or shapes (start + j) One)
        (start + j) k = IsAlive-step table shapes (start + j) k in (
          λ s. absurd (IsBitSet-zero j s),
          λ a. absurd (⊎_elim
              (λ w. none_whole table shapes k start (start + j) (omega arith) (omega (arith, within, fits)) none
              (λ t low lt. taken t low (omega (arith, lt, within))) w)
              (λ (t, grows). taken (start + j) (omega arith) within t)
              (step.0 a)),
        );
    whole = λ j e. (
      λ s. absurd (IsBitSet-zero j s),
      λ w. absurd (none_whole table shapes k start (word_end end start) (omega (arith, from)) (omega (arith, fits)) none taken w),
    );
  }

  -- the words from number n on, where nothing was alive
  pub AreAlive-zeros : (alive : List ℕ) (n high k : ℕ) → AreAlive table shapes end k 0 n alive → end ≤ length shapes → 63 * (high - 1) ≤ end
      → (n < high → ¬ (PrefixSplits table shapes (63 * n) k))
      → ((t : ℕ) → 63 * n ≤ t → t < 63 * high → t < end → ¬ (HasTaken table shapes t k)) →
      ((i : ℕ) → n ≤ i → i < high → get_or alive i 0 ≡ 0) → AreAlive table shapes end k 0 high alive
  AreAlive-zeros alive n high k done all few none taken zeros = record {
    word = λ i low lt.
        ⊎_elim
        (λ before. done.word i low before)
        (λ from.
        let fits : 63 * i ≤ end = omega (arith, few, lt) in
        let start : ¬ (PrefixSplits table shapes (63 * i) k) = none_whole table shapes k (63 * n) (63 * i) (omega (arith, from))
        (omega (arith, fits, all)) (none (omega (arith, from, lt)))
        (λ t a b. taken t a (omega (arith, b, lt)) (omega (arith, b, fits))) in
        let here : (t : ℕ) → 63 * i ≤ t → t < word_end end (63 * i) → ¬ (HasTaken table shapes t k) = λ t a b. taken t
        (omega (arith, a, from)) (omega (arith, b, lt)) (omega (arith, b)) in
        rw (zeros i from lt) (IsAliveWord-zero (63 * i) k fits all start here))
        (cases_lt i n);
  }

  -- the first word, where nothing is alive in the others
  pub AreAlive-first : (alive : List ℕ) (first k : ℕ) → 0 < length alive → end ≤ length shapes → 63 * (length alive - 1) ≤ end
      → ((i : ℕ) → i < length alive → get_or alive i 0 ≡ 0) → first < 2 ^ 64 → first / 2 ^ 63 ≡ 0 → IsAliveWord table shapes end 0 k first
      → ((t : ℕ) → 63 ≤ t → t < end → ¬ (HasTaken table shapes t k))
      → AreAlive table shapes end k 0 (length alive) (set alive 0 first)
  AreAlive-first alive first k some fits few zeros short low says none =
      let part : AreAlive table shapes end k 0 1 (set alive 0 first) = AreAlive-set table shapes end k 0 alive first
      (record { word = λ i from lt. absurd (omega (arith, lt)) }) some says in
      AreAlive-zeros (set alive 0 first) 1 (length alive) k part fits few
      (λ lt whole. false≢true (rw low at ((carry-whole table shapes end k 1 (set alive 0 first) part (omega arith) (omega (arith, few, lt))
      first short (sym (get_or-set_same alive 0 first 0 some))).1 whole)))
      (λ t from below within. none t (omega (arith, from)) within)
      (λ i from lt. rw (get_or-set_other alive 0 i first 0 (omega (arith, from))) (zeros i lt))

module _ (table : Table) (shapes : List Shape) where
  -- questions to neighbouring tokens
  pub WereAsked-joined : (start mid end k a b c : ℕ) → start ≤ mid → mid ≤ end → WereAsked table shapes start mid k a b
      → WereAsked table shapes mid end k b c → WereAsked table shapes start end k a c
  WereAsked-joined start mid end k a b c low high first rest = record {
    monotone = omega (arith, first.monotone, rest.monotone);
    most = omega (arith, first.most, rest.most, low, high);
    least = λ t from lt taken. ⊎_elim
        (λ early. omega (arith, first.least t from early taken, rest.monotone))
        (λ later. omega (arith, rest.least t later lt taken, first.monotone))
        (cases_lt t mid);
  }

  -- tokens that have taken nothing need no questions
  pub WereAsked-none : (start end k count : ℕ) → ((t : ℕ) → start ≤ t → t < end → ¬ (HasTaken table shapes t k))
      → WereAsked table shapes start end k count count
  WereAsked-none start end k count none = record {
    monotone = omega arith;
    most = omega arith;
    least = λ t from lt taken. absurd (none t from lt taken);
  }

-- setting a word past the end leaves the live words
pub IsLive-set : (words : List ℕ) (end low high word : ℕ) → IsLive words end low high → IsLive (set words end word) end low high
IsLive-set words end low high word live = record {
  within = rw (length-set words end word) live.within;
  none = λ i below out. rw (get_or-set_other words end i word 0 (omega (arith, below))) (live.none i below out);
}
