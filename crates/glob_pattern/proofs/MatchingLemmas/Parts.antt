-- Parts of a text that tokens split: with a character less at either end, and up to the whole text.
use Rattle.std.proofs.Common.{◌≡◌, ℕ, zero, suc, ◌+◌, ◌<◌, ◌≤◌, ◌↔◌, ◌==◌, Bool, true, List, [], ◌∷◌, ◌++◌, length, map}
use Rattle.std.proofs.Common.{take, get_or, IsTrue, refl, sym, ap, ap₂, subst, subst₂, ◌∙◌, inl, inr, ⊎_elim, arith}
use Rattle.std.proofs.lemmas.List.{get_or-map, get_or_append_left, get_or-take, get_or_at, length-append, length-map, length-take-le}
use Rattle.std.proofs.lemmas.Bool.{cases_eq}
use Rattle.glob_text.specs.Characters.{slash}
use Rattle.glob_text.specs.Text.{Text, opens}
use Rattle.glob_pattern.specs.Grammar.Tokens.{Token, shape_of}
use Rattle.glob_pattern.specs.Matching.Splits.{Table, MayReach, TakesAll, Splits}
use Rattle.glob_pattern.specs.Matching.Taking.{takes}
use Rattle.glob_pattern.specs.Matching.Texts.{TokensMatch}
use Rattle.glob_pattern.specs.Private.Parts.{SplitsPart}
use Rattle.glob_pattern.specs.Private.Prefixes.{PrefixSplits}
use Rattle.glob_pattern.specs.Private.TextTable.{table_of, opens_within, table_within}
use Rattle.glob_pattern.specs.declared.matcher.Shape.{Shape}
use Rattle.glob_pattern.specs.declared.matcher.Shape.TheVariants.{One, Run, Deep}
use Rattle.glob_pattern.specs.declared.options.MatchOptions.{MatchOptions}
use Rattle.glob_pattern.specs.declared.token.Token.TheVariants.{AnyChar}
use Rattle.glob_pattern.proofs.MatchingLemmas.PiecesAndSplits.{Splits-from_TokensMatch, TokensMatch-from_Splits}
use Rattle.glob_pattern.proofs.MatchingLemmas.Splits.{MayReach-le}
use Rattle.glob_pattern.proofs.MatchingLemmas.Stepping.{opens-suc}
use Rattle.glob_pattern.proofs.PositionLemmas.LastOnes.{SameBefore, PrefixSplits-same, some-first, one-from_PrefixSplits, PrefixSplits-one}
use Rattle.glob_pattern.proofs.PositionLemmas.Prefixes.{Splits-iff_prefix}

-- whether a component begins at a place is the same without the first character, one place earlier
pub opens-shift : (opening : Bool) (c : ℕ) (cs : Text) (k : ℕ) → opens_within opening (c ∷ cs) (suc k) ≡ opens_within (c == slash) cs k
opens-shift opening c cs zero = refl
opens-shift opening c cs (suc k) = refl

-- a number that is not 0 is one more than another
before_some : (k : ℕ) → 0 < k → (m : ℕ) × (k ≡ suc m)
before_some zero lt = absurd (omega arith)
before_some (suc m) lt = (m, refl)

-- the tables with and without the first token and the first character
module _ (o : MatchOptions) (opening : Bool) (t : Token) (ts : List Token) (c : ℕ) (cs : Text) where
  takes-shift : (n k : ℕ) → (table_within opening o (t ∷ ts) (c ∷ cs)).takes (suc n) (suc k) ≡ (table_within (c == slash) o ts cs).takes n k
  unfolding table_within
  takes-shift n k = ap (λ b. takes o b (get_or cs k 0) (get_or ts n AnyChar)) (opens-shift opening c cs k)

  reach-shift : (shape : Shape) (others : List Shape) (i j : ℕ)
      → MayReach (table_within opening o (t ∷ ts) (c ∷ cs)) shape others (suc i) (suc j) ↔ MayReach (table_within
      (c == slash) o ts cs) shape others i j
  unfolding table_within
  reach-shift One others i j = (λ e. omega arith, λ e. omega arith)
  reach-shift Run others i j = (λ le. omega arith, λ le. omega arith)
  reach-shift Deep others i j = (
    λ (le, ends). (
      omega arith,
      ⊎_elim inl (λ more. inr (⊎_elim (λ e. inl (omega arith))
          (λ at. inr (sym (opens-shift opening c cs j) ∙ at)) more)) ends,
    ),
    λ (le, ends). (
      omega arith,
      ⊎_elim inl (λ more. inr (⊎_elim (λ e. inl (omega arith))
          (λ at. inr (opens-shift opening c cs j ∙ at)) more)) ends,
    ),
  )

  all-to_rest : (n i k : ℕ) → TakesAll (table_within opening o (t ∷ ts) (c ∷ cs)) (suc n) (suc i) (suc k) → TakesAll
      (table_within (c == slash) o ts cs) n i k
  all-to_rest n i k all j low high = sym (takes-shift n j) ∙ all (suc j) (omega arith) (omega arith)

  all-from_rest : (n i k : ℕ) → TakesAll (table_within (c == slash) o ts cs) n i k → TakesAll (table_within opening o
      (t ∷ ts) (c ∷ cs)) (suc n) (suc i) (suc k)
  all-from_rest n i k all = each
    where
      each : (j : ℕ) → suc i ≤ j → j < suc k → IsTrue ((table_within opening o (t ∷ ts) (c ∷ cs)).takes (suc n) j)
      each zero low high = absurd (omega arith)
      each (suc j) low high = takes-shift n j ∙ all j (omega arith) (omega arith)

  module _ (one : shape_of t ≡ One) where
    PrefixSplits-to_rest : (n k : ℕ) → PrefixSplits (table_within opening o (t ∷ ts) (c ∷ cs)) (map shape_of (t ∷ ts)) (suc n) k
        → IsTrue ((table_within opening o (t ∷ ts) (c ∷ cs)).takes 0 0) × (j : ℕ) × (k ≡ suc j) × PrefixSplits
        (table_within (c == slash) o ts cs) (map shape_of ts) n j
    unfolding PrefixSplits
    PrefixSplits-to_rest zero k (i, start, reach, all) =
        let next : k ≡ i + 1 = rw one at reach in
        (all 0 (omega arith) (omega arith), 0, omega arith, refl)
    PrefixSplits-to_rest (suc n) k (i, prefix, reach, all) =
        let (took, j, e, before) = PrefixSplits-to_rest n i prefix in
        let le = MayReach-le (table_within opening o (t ∷ ts) (c ∷ cs)) (get_or (map shape_of ts) n One) _ i k reach in
        let (m, at) : (m : ℕ) × (k ≡ suc m) = before_some k (omega arith) in (
          took,
          m,
          at,
          (
            j,
            before,
            (reach-shift (get_or (map shape_of ts) n One) _ j m).0 (subst₂ (MayReach (table_within opening o (t ∷ ts)
                (c ∷ cs)) (get_or (map shape_of ts) n One) _) e at reach),
            all-to_rest n j m (subst₂ (TakesAll (table_within opening o (t ∷ ts) (c ∷ cs)) (suc n)) e at all),
          ),
        )

    PrefixSplits-from_rest : (n j : ℕ) → IsTrue ((table_within opening o (t ∷ ts) (c ∷ cs)).takes 0 0) → PrefixSplits
        (table_within (c == slash) o ts cs) (map shape_of ts) n j
        → PrefixSplits (table_within opening o (t ∷ ts) (c ∷ cs)) (map shape_of (t ∷ ts)) (suc n) (suc j)
    unfolding PrefixSplits
    PrefixSplits-from_rest zero j took start = (
      0,
      refl,
      rw one (omega arith),
      λ p low high. let at : 0 ≡ p = omega arith in subst
          (λ q. IsTrue ((table_within opening o (t ∷ ts) (c ∷ cs)).takes 0 q)) at took,
    )
    PrefixSplits-from_rest (suc n) j took (i, prefix, reach, all) = (
      suc i,
      PrefixSplits-from_rest n i took prefix,
      (reach-shift (get_or (map shape_of ts) n One) _ i j).1 reach,
      all-from_rest n i j all,
    )

    -- a first one-character token takes the first character, and leaves the rest to the other tokens
    pub SplitsPart-first : (n : ℕ) → SplitsPart o opening (t ∷ ts) (suc n) (c ∷ cs) ↔ (IsTrue (takes o opening c t)
        × SplitsPart o (c == slash) ts n cs)
    unfolding SplitsPart table_within
    SplitsPart-first n = (
      λ splits. let (took, j, e, rest) = PrefixSplits-to_rest n (suc (length cs)) splits in
          let at : j ≡ length cs = omega arith in (
            took,
            subst (PrefixSplits (table_within (c == slash) o ts cs)
                (map shape_of ts) n) at rest,
          ),
      λ (took, rest). PrefixSplits-from_rest n (length cs) took rest,
    )

-- a first one-character token splits no empty text
pub SplitsPart-first_none : (o : MatchOptions) (opening : Bool) (t : Token) (ts : List Token) (n : ℕ) → shape_of t ≡
    One → SplitsPart o opening (t ∷ ts) (suc n) [] → ⊥
unfolding SplitsPart
SplitsPart-first_none o opening t ts n one splits =
    let some = some-first (table_within opening o (t ∷ ts) []) (map shape_of (t ∷ ts)) n 0 one splits in omega arith

module _ (o : MatchOptions) (opening : Bool) (tokens : List Token) (n : ℕ) (within : n < length tokens)
    (single : shape_of (get_or tokens n AnyChar) ≡ One) where
  one-at : get_or (map shape_of tokens) n One ≡ One
  one-at = get_or-map shape_of tokens n AnyChar One within ∙ single

  module _ (cs : Text) (c : ℕ) where
    opens-front : (k : ℕ) → k ≤ length cs → opens_within opening (cs ++ c ∷ []) k ≡ opens_within opening cs k
    opens-front zero le = refl
    opens-front (suc k) le = ap (λ d. d == slash) (get_or_append_left cs (c ∷ []) 0 k (omega arith))

    same-front : SameBefore (table_within opening o tokens (cs ++ c ∷ [])) (table_within opening o tokens cs) n (length cs)
    unfolding table_within
    same-front = record {
      takes = λ m j few lt. ap₂ (λ b d. takes o b d (get_or tokens m AnyChar)) (opens-front j (omega arith))
          (get_or_append_left cs (c ∷ []) 0 j lt);
      opens = opens-front;
    }

    takes-last : (table_within opening o tokens (cs ++ c ∷ [])).takes n (length cs) ≡ takes o (opens_within opening cs
        (length cs)) c (get_or tokens n AnyChar)
    unfolding table_within
    takes-last = ap₂ (λ b d. takes o b d (get_or tokens n AnyChar)) (opens-front (length cs) (omega arith))
        (get_or_at cs c [] 0 (length cs) refl)

    -- a last one-character token takes the last character, and leaves the rest to the tokens before it
    pub SplitsPart-last : SplitsPart o opening tokens (suc n) (cs ++ c ∷ []) ↔
        (IsTrue (takes o (opens_within opening cs (length cs)) c (get_or tokens n AnyChar)) × SplitsPart o opening
        tokens n cs)
    unfolding SplitsPart
    SplitsPart-last =
        let shapes = map shape_of tokens in
        let long : length (cs ++ c ∷ []) ≡ suc (length cs) = omega (arith, length-append cs (c ∷ [])) in
        let fewer = PrefixSplits-same _ _ shapes n (length cs) same-front in
        subst (λ k. PrefixSplits (table_within opening o tokens (cs ++ c ∷ [])) shapes (suc n) k
        ↔ (IsTrue (takes o (opens_within opening cs (length cs)) c (get_or tokens n AnyChar)) × PrefixSplits
        (table_within opening o tokens cs) shapes n (length cs))) (sym long) (
          λ splits. let (took, rest) = one-from_PrefixSplits (table_within opening o tokens (cs ++ c ∷ [])) shapes n
              (length cs) one-at splits in
              (sym takes-last ∙ took, fewer.0 rest),
          λ (took, rest). PrefixSplits-one (table_within opening o tokens (cs ++ c ∷ [])) shapes n (length cs) one-at (takes-last ∙ took)
              (fewer.1 rest),
        )

  -- a last one-character token splits no empty text
  pub SplitsPart-last_none : SplitsPart o opening tokens (suc n) [] → ⊥
  unfolding SplitsPart PrefixSplits
  SplitsPart-last_none (i, prefix, reach, all) = let next : 0 ≡ i + 1 = rw one-at at reach in omega arith

-- a whole text begins a component
opens-whole : (text : Text) (k : ℕ) → opens text k ≡ opens_within true text k
opens-whole text zero = refl
opens-whole text (suc k) = opens-suc text k

same-whole_text : (o : MatchOptions) (tokens : List Token) (text : Text) (m k : ℕ)
    → SameBefore (table_of o tokens text) (table_within true o tokens text) m k
unfolding table_of table_within
same-whole_text o tokens text m k = record {
  takes = λ n j few lt. ap (λ b. takes o b (get_or text j 0) (get_or tokens n AnyChar)) (opens-whole text j);
  opens = λ j le. opens-whole text j;
}

-- tokens match a text exactly when all of them split it
pub TokensMatch-iff_part : (o : MatchOptions) (tokens : List Token) (text : Text) → TokensMatch o tokens text ↔
    SplitsPart o true tokens (length tokens) text
unfolding SplitsPart table_of
TokensMatch-iff_part o tokens text =
    let shapes = map shape_of tokens in
    let n : ℕ = length text in
    let whole : Splits (table_of o tokens text) shapes ↔ PrefixSplits (table_of o tokens text) shapes (length tokens) n =
    subst (λ m. Splits (table_of o tokens text) shapes ↔ PrefixSplits (table_of o tokens text) shapes m n)
    (length-map tokens shape_of) (Splits-iff_prefix (table_of o tokens text) shapes) in
    let within = PrefixSplits-same (table_of o tokens text) (table_within true o tokens text) shapes (length tokens) n
    (same-whole_text o tokens text (length tokens) n) in (
      λ match. within.0 (whole.0 (Splits-from_TokensMatch o tokens text match)),
      λ splits. TokensMatch-from_Splits o tokens text (whole.1 (within.1 splits)),
    )

-- only the first n tokens need to be asked
pub SplitsPart-asked : (o : MatchOptions) (opening : Bool) (tokens : List Token) (n : ℕ) (part : Text)
    → PrefixSplits (table_within opening o (take n tokens) part) (map shape_of tokens) n (length part) ↔ SplitsPart o opening tokens n part
unfolding SplitsPart table_within
SplitsPart-asked o opening tokens n part =
    PrefixSplits-same (table_within opening o (take n tokens) part) (table_within opening o tokens part) (map shape_of tokens) n
    (length part) (record {
      takes = λ m j few lt. ap (takes o (opens_within opening part j) (get_or part j 0)) (get_or-take n tokens m AnyChar few);
      opens = λ j le. refl;
    })

-- fewer of the shapes split some of the characters
PrefixSplits-fewer : (table : Table) (shapes : List Shape) (n m k : ℕ) → m ≤ n → PrefixSplits table shapes n k →
    (j : ℕ) × (j ≤ k) × PrefixSplits table shapes m j
unfolding PrefixSplits
PrefixSplits-fewer table shapes zero m k le start =
    let none : 0 ≡ m = omega arith in
    (k, omega arith, subst (λ q. PrefixSplits table shapes q k) none start)
PrefixSplits-fewer table shapes (suc n) m k le (i, prefix, reach, all) =
    ⊎_elim
    (λ e. (k, omega arith, subst (λ q. PrefixSplits table shapes q k) (sym e) (i, prefix, reach, all)))
    (λ other.
    let (j, fewer, before) = PrefixSplits-fewer table shapes n m i (omega arith) prefix in
    let from = MayReach-le table (get_or shapes n One) _ i k reach in
    (j, omega arith, before))
    (cases_eq m (suc n))

opens-take : (opening : Bool) (text : Text) (j k : ℕ) → k ≤ j → opens_within opening text k ≡ opens_within opening (take j text) k
opens-take opening text j zero le = refl
opens-take opening text j (suc k) le = ap (λ d. d == slash) (sym (get_or-take j text k 0 (omega arith)))

same-take : (o : MatchOptions) (opening : Bool) (tokens : List Token) (text : Text) (m j : ℕ)
    → SameBefore (table_within opening o tokens text) (table_within opening o tokens (take j text)) m j
unfolding table_within
same-take o opening tokens text m j = record {
  takes = λ n k few lt. ap₂ (λ b d. takes o b d (get_or tokens n AnyChar)) (opens-take opening text j k (omega arith))
      (sym (get_or-take j text k 0 lt));
  opens = λ k le. opens-take opening text j k le;
}

-- fewer of the tokens split the start of the part
pub SplitsPart-fewer : (o : MatchOptions) (opening : Bool) (tokens : List Token) (n m : ℕ) (text : Text) → m ≤ n
    → SplitsPart o opening tokens n text → (j : ℕ) × SplitsPart o opening tokens m (take j text)
unfolding SplitsPart
SplitsPart-fewer o opening tokens n m text within splits =
    let (j, le, fewer) = PrefixSplits-fewer (table_within opening o tokens text) (map shape_of tokens) n m (length text) within splits in
    let long : j ≡ length (take j text) = sym (length-take-le j text le) in (
      j,
      subst (PrefixSplits (table_within opening o tokens (take j text)) (map shape_of tokens) m) long
          ((PrefixSplits-same _ _ (map shape_of tokens) m j (same-take o opening tokens text m j)).0 fewer),
    )
