-- A run over position sets: its start, its steps, and when a last wildcard takes all that is left.
use Rattle.std.proofs.Common.{◌≡◌, ℕ, zero, suc, ◌+◌, ◌-◌, ◌*◌, ◌^◌, ◌<◌, ◌≤◌, ◌≢◌, ◌↔◌, Bool, false, true, IsTrue}
use Rattle.std.proofs.Common.{List, [], ◌∷◌, length, get_or, drop, bit_and, refl, sym, subst, inl, inr, ⊎_elim, arith}
use Rattle.std.proofs.Math.Nat.{le_refl, le_trans, le-add_right}
use Rattle.std.specs.Int.{IsBitSet, trailing_zeros, w64}
use Rattle.std.proofs.lemmas.Bool.{cases_eq, false≢true}
use Rattle.std.proofs.lemmas.Nat.{and_le_l, and_le_r}
use Rattle.std.proofs.lemmas.List.{drop_all}
use Rattle.glob_pattern.specs.Matching.Splits.{Table, MayReach}
use Rattle.glob_pattern.specs.Private.Prefixes.{PrefixSplits, IsAlive, HasTaken, IsAnyAlive}
use Rattle.glob_pattern.specs.Private.Positions.{IsShapeWord, AreShapeWords, AreAlive, TakesRest, WereAsked, HasRun}
use Rattle.glob_pattern.specs.Private.Positions.{HasDecided, word_before}
use Rattle.glob_pattern.proofs.Counts.{mul-left, room-after}
use Rattle.glob_pattern.proofs.PositionLemmas.Alive.{asked_more}
use Rattle.glob_pattern.proofs.PositionLemmas.DeadPlaces.{dead-from_none}
use Rattle.glob_pattern.proofs.PositionLemmas.Words.{none-at_end}
use Rattle.glob_pattern.proofs.BitLemmas.LowestBits.{lowest_set}
use Rattle.glob_pattern.proofs.BitLemmas.SetBits.{IsBitSet-and}
use Rattle.glob_pattern.specs.declared.matcher.positions.Span.{Span}
use Rattle.glob_pattern.specs.declared.matcher.shape_word.ShapeWord.{ShapeWord}
use Rattle.glob_pattern.specs.declared.matcher.Shape.{Shape}
use Rattle.glob_pattern.specs.declared.matcher.Shape.TheVariants.{One, Run, Deep}

-- if something is alive after a character, a token was asked about it
asked-for_alive : (table : Table) (shapes : List Shape) (end p asked : ℕ) → end ≤ length shapes → 0 < p
    → (asked ≡ 0 → (n : ℕ) → n < end → ¬ (HasTaken table shapes n p))
    → IsAnyAlive table shapes end p → 0 < asked
asked-for_alive table shapes end zero asked within later none any = absurd (omega arith)
asked-for_alive table shapes end (suc k) asked within later none any =
    ⊎_elim (λ e. absurd (dead-from_none table shapes end within k (none e) any)) (λ ne. omega arith) (cases_eq asked 0)

module _ (table : Table) (shapes : List Shape) (end : ℕ) where
  module _ (first k count : ℕ) (alive : List ℕ) (run : HasRun table shapes end first k count alive) where
    -- after the questions about a character
    pub HasRun-stepped : (p after : ℕ) (moved : List ℕ) → end ≤ length shapes → p ≡ k + 1 → p ≤ table.characters
        → WereAsked table shapes 0 end p count after
        → AreAlive table shapes end p 0 (length moved) moved → HasRun table shapes end first p after moved
    HasRun-stepped p after moved fits next within asked says =
        let back : p - 1 ≡ k = omega (arith, next) in
        let left = room-after end table.characters p (after - count) count after (omega (arith, next)) within (omega (arith, asked.most))
        (omega (arith, asked.monotone)) in
        let some = asked-for_alive table shapes end p (after - count) fits (omega (arith, next))
        (λ none m lt taken. let up = asked.least m (omega arith) lt taken in absurd (omega (arith, up, none))) in
        record {
          alive = says;
          within = within;
          most = omega (arith, rw back at left, run.most);
          least = asked_more table shapes end first k p count after fits next (λ any. omega (arith, some any)) run.least;
          monotone = omega (arith, run.monotone, asked.monotone);
        }

    -- there is room for the questions about one character more
    pub HasRun-room : k < table.characters → first + end * table.characters < 2 ^ 128 → count + end < 2 ^ 128
    HasRun-room more room =
        let left = mul-left end table.characters k (omega (arith, more)) in
        omega (arith, left, run.most, room)

  -- if the last shape before the end is a wildcard that takes all characters, and is alive, the shapes split them
  pub whole-by_rest : (n k : ℕ) → TakesRest table shapes end n → k ≤ table.characters → IsAlive table shapes n k
      → PrefixSplits table shapes end table.characters
  unfolding PrefixSplits IsAlive
  whole-by_rest n k rest within (i, le, prefix, before, here) =
      let whole : PrefixSplits table shapes (suc n) table.characters = (
        i,
        prefix,
        reach (get_or shapes n One) refl
            rest.free.grows,
        λ j low high. rest.takes j (omega arith) high,
      ) in
      subst (λ m. PrefixSplits table shapes m table.characters) rest.free.last whole
    where
      reach : (shape : Shape) → get_or shapes n One ≡ shape → shape ≢ One → MayReach table shape (drop (suc n) shapes) i table.characters
      reach One is ne = absurd (ne refl)
      reach Run is ne = omega arith
      reach Deep is ne = (
        omega arith,
        inl (let all : length shapes ≤ suc n = omega
            (arith, rest.free.ends is, rest.free.last) in rw drop_all refl),
      )

module _ (table : Table) (shapes : List Shape) (span : Span) (first k count : ℕ) (alive : List ℕ)
    (run : HasRun table shapes span.end first k count alive) (within : span.end ≤ length shapes) where
  -- a run that has stepped over all characters
  pub HasDecided-ended : (found : Bool) → k ≡ table.characters → IsTrue found ↔ PrefixSplits table shapes span.end k
      → HasDecided table shapes span first count found
  HasDecided-ended found all answer = record {
    answer = subst (λ p. IsTrue found ↔ PrefixSplits table shapes span.end p) all answer;
    most = le_trans (le-add_right _ _) run.most;
    least = λ t none. rw all at (run.least (inr (answer.0 t)));
    monotone = run.monotone;
  }

  -- a run in which nothing is alive
  pub HasDecided-dead : span.end ≤ 63 * length alive → 0 < length alive → ((i : ℕ) → i < length alive → get_or alive i 0 ≡ 0)
      → HasDecided table shapes span first count false
  HasDecided-dead long some none = record {
    answer = (
      λ t. absurd (false≢true t),
      λ here. absurd
          (none-at_end table shapes span.end k alive run.alive within long some none run.within here),
    );
    most = le_trans (le-add_right _ _) run.most;
    least = λ t. absurd (false≢true t);
    monotone = run.monotone;
  }

  -- a run has decided, with yes, once a position is alive from which all that is left is taken
  pub HasDecided-accepting : word_before span.end < length alive → get_or alive (word_before span.end) 0 < 2 ^ 64
      → 0 < bit_and (get_or alive (word_before span.end) 0) span.accepting
      → ((j : ℕ) → IsBitSet span.accepting j → TakesRest table shapes span.end (63 * word_before span.end + j))
      → HasDecided table shapes span first count true
  HasDecided-accepting some fits meets accepting =
      let w = word_before span.end in
      let j = trailing_zeros w64 (bit_and (get_or alive w 0) span.accepting) in
      let (lt, set, none) = lowest_set (bit_and (get_or alive w 0) span.accepting) meets
      (omega (arith, and_le_l (get_or alive w 0) span.accepting, fits)) in
      let both = (IsBitSet-and (get_or alive w 0) span.accepting j).0 set in
      let rest = accepting j both.1 in
      let here = (run.alive.word w (omega arith) some).alive j (omega (arith, rest.free.last)) in
      record {
        answer = (λ t. whole-by_rest table shapes span.end _ k rest run.within (here.0 both.0), λ a. refl);
        most = le_trans (le-add_right _ _) run.most;
        least = λ t zero. absurd (omega (arith, and_le_r (get_or alive w 0) span.accepting, zero, meets));
        monotone = run.monotone;
      }

-- a single word with all shapes before an end
pub one-word : (shapes : List Shape) (end : ℕ) (word : ShapeWord) → end < 64 → end ≤ length shapes → IsShapeWord shapes end 0 word
    → AreShapeWords shapes end (word ∷ [])
one-word shapes end word few within is = record {
  within = within;
  some = omega arith;
  all = omega arith;
  few = omega arith;
  word = λ i d lt. let e : i ≡ 0 = omega arith in subst (λ m. IsShapeWord shapes end (63 * m) (get_or (word ∷ []) m d)) (sym e) is;
}

-- before the first character
pub HasRun-start : (table : Table) (shapes : List Shape) (end first k : ℕ) (alive : List ℕ) → k ≡ 0
    → AreAlive table shapes end 0 0 (length alive) alive → HasRun table shapes end first k first alive
HasRun-start table shapes end first k alive start says = record {
  alive = rw start says;
  within = omega (arith, start);
  most = let all : table.characters - k ≡ table.characters = omega (arith, start) in rw all (le_refl _);
  least = λ any. omega (arith, start);
  monotone = le_refl _;
}
