-- Each token after the last wildcard takes one character, so the place from which they take the rest is known.
use Rattle.std.proofs.Common.{◌≡◌, ◌≢◌, ℕ, zero, suc, ◌+◌, ◌-◌, ◌<◌, ◌≤◌, ⊎_elim, Bool, true, false, List, [], ◌∷◌}
use Rattle.std.proofs.Common.{length, get_or, set, map, drop, replicate, IsTrue, sym, ap, subst, ◌∙◌, arith}
use Rattle.std.proofs.lemmas.Bool.{cases_eq, cases_lt, false≢true}
use Rattle.std.proofs.lemmas.List.{length-set, length-map, length-drop, length-replicate, get_or-replicate}
use Rattle.std.proofs.lemmas.List.{get_or-set_same, get_or-set_other, get_or-drop}
use Rattle.glob_text.specs.Text.{Text}
use Rattle.glob_pattern.specs.Grammar.Tokens.{Token, shape_of}
use Rattle.glob_pattern.specs.Matching.Splits.{Table, SplitsFrom}
use Rattle.glob_pattern.specs.Private.TextTable.{table_of}
use Rattle.glob_pattern.specs.declared.matcher.Shape.{Shape}
use Rattle.glob_pattern.specs.declared.matcher.Shape.TheVariants.{One, Run, Deep}
use Rattle.glob_pattern.specs.declared.options.MatchOptions.{MatchOptions}
use Rattle.glob_captures.specs.declared.span.WildcardSpan.{WildcardSpan}
use Rattle.glob_captures.specs.Private.Rests.{grows, shape_at, shapes_from, TakesRest, AreRests, AreInnerRests, IsSpan}
use Rattle.glob_captures.specs.Private.Ends.{IsShortestEnd}
use Rattle.glob_captures.proofs.RestLemmas.Rows.{shapes-at}

-- each of the shapes is of one character
abbrev pub AreOnes : List Shape → Type 0
AreOnes [] = Unit {0}
AreOnes (One ∷ shapes) = AreOnes shapes
AreOnes (Run ∷ shapes) = ⊥
AreOnes (Deep ∷ shapes) = ⊥

ones-from : (shapes : List Shape) → ((i : ℕ) → i < length shapes → grows (get_or shapes i One) ≡ false) → AreOnes shapes
ones-from [] h = tt
ones-from (One ∷ ss) h = ones-from ss (λ i below. h (suc i) (omega arith))
ones-from (Run ∷ ss) h = absurd (false≢true (sym (h 0 (omega arith))))
ones-from (Deep ∷ ss) h = absurd (false≢true (sym (h 0 (omega arith))))

-- the place from which they take the rest
ones-place : (table : Table) (n : ℕ) (shapes : List Shape) (k : ℕ) → AreOnes shapes → SplitsFrom table n shapes k
    → k + length shapes ≡ table.characters
ones-place table n [] k ones at = omega (arith, at)
ones-place table n (One ∷ shapes) k ones (j, reach, took, rest) =
    let later : j + length shapes ≡ table.characters = ones-place table (n + 1) shapes j ones rest in
    omega (arith, reach, later)
ones-place table n (Run ∷ shapes) k ones split = absurd ones
ones-place table n (Deep ∷ shapes) k ones split = absurd ones

-- the piece before them ends there
last-end : (table : Table) (n : ℕ) (shape : Shape) (others : List Shape) (i end : ℕ) → AreOnes others → end + length
    others ≡ table.characters → SplitsFrom table n (shape ∷ others) i → IsShortestEnd table n shape others i end
last-end table n shape others i end ones is (j, reach, took, rest) =
    let at : j + length others ≡ table.characters = ones-place table (n + 1) others j ones rest in
    let same : j ≡ end = omega arith in
    subst (λ e. IsShortestEnd table n shape others i e) same
    (record {
      reach = reach;
      took = took;
      rest = rest;
      least = λ k may all split. let other : k + length others ≡ table.characters = ones-place table (n + 1) others k
          ones split in omega arith;
    })

-- the tokens after the last wildcard
module _ (o : MatchOptions) (tokens : List Token) (text : Text) (span : WildcardSpan) (is : IsSpan tokens span) (n : ℕ)
    (from : span.last ≤ n) (below : n < length tokens) where
  pub ones-after : AreOnes (shapes_from tokens (n + 1))
  ones-after =
      let shapes : List Shape = map shape_of tokens in
      let many : length shapes ≡ length tokens = length-map tokens shape_of in
      let left : length (drop (n + 1) shapes) ≡ length shapes - (n + 1) = length-drop (n + 1) shapes in
      ones-from (drop (n + 1) shapes)
      (λ i within. ap grows (get_or-drop (n + 1) shapes i One) ∙ is.after (n + 1 + i) (omega arith) (omega arith))

  pub length-after : length (shapes_from tokens (n + 1)) ≡ length tokens - 1 - n
  length-after =
      let many : length (map shape_of tokens) ≡ length tokens = length-map tokens shape_of in
      let left : length (drop (n + 1) (map shape_of tokens)) ≡ length (map shape_of tokens) - (n + 1) = length-drop
      (n + 1) (map shape_of tokens) in
      omega arith

  -- the place from which the tokens after it take the rest
  pub rest-place : (k : ℕ) → TakesRest o tokens text (n + 1) k → k + (length tokens - 1 - n) ≡ length text
  unfolding TakesRest table_of
  rest-place k rest =
      let at : k + length (shapes_from tokens (n + 1)) ≡ length text = ones-place (table_of o tokens text) (n + 1)
      (shapes_from tokens (n + 1)) k ones-after rest in
      let many = length-after in
      omega arith

  -- there is room for them
  pub rest-room : (i : ℕ) → TakesRest o tokens text n i → length tokens - 1 - n ≤ length text
  unfolding TakesRest
  rest-room i rest =
      let split : SplitsFrom (table_of o tokens text) n (shape_at tokens n ∷ shapes_from tokens (n + 1)) i = subst
      (λ ss. SplitsFrom (table_of o tokens text) n ss i) (shapes-at tokens n below) rest in
      let at : split.0 + (length tokens - 1 - n) ≡ length text = rest-place split.0 split.3 in
      omega arith

  -- so its own piece ends there
  pub shortest_last : (i : ℕ) → TakesRest o tokens text n i → IsShortestEnd (table_of o tokens text) n
      (shape_at tokens n) (shapes_from tokens (n + 1)) i (length text - (length tokens - 1 - n))
  unfolding TakesRest table_of
  shortest_last i rest =
      let room : length tokens - 1 - n ≤ length text = rest-room i rest in
      let many = length-after in
      last-end (table_of o tokens text) n (shape_at tokens n) (shapes_from tokens (n + 1)) i (length text -
      (length tokens - 1 - n)) ones-after (omega arith)
      (subst (λ ss. SplitsFrom (table_of o tokens text) n ss i) (shapes-at tokens n below) rest)

-- the tokens after one take the rest from some place on
next-rest : (o : MatchOptions) (tokens : List Token) (text : Text) (n k : ℕ) → n < length tokens → TakesRest o tokens
    text n k → (j : ℕ) × TakesRest o tokens text (suc n) j
unfolding TakesRest
next-rest o tokens text n k below rest =
    let next : n + 1 ≡ suc n = omega arith in
    let split : SplitsFrom (table_of o tokens text) n (shape_at tokens n ∷ shapes_from tokens (n + 1)) k = subst
    (λ ss. SplitsFrom (table_of o tokens text) n ss k) (shapes-at tokens n below) rest in
    (split.0, subst (λ m. SplitsFrom (table_of o tokens text) m (shapes_from tokens m) split.0) next split.3)

-- so if all tokens take the text, the tokens from any number on take a rest of it
pub later-rest : (o : MatchOptions) (tokens : List Token) (text : Text) (n : ℕ) → n ≤ length tokens
    → TakesRest o tokens text 0 0 → (j : ℕ) × TakesRest o tokens text n j
later-rest o tokens text zero within rest = (0, rest)
later-rest o tokens text (suc n) within rest =
    let before : (j : ℕ) × TakesRest o tokens text n j = later-rest o tokens text n (omega arith) rest in
    next-rest o tokens text n before.0 (omega arith) before.1

-- the row of the tokens after the last wildcard
pub AreRests-after_span : (o : MatchOptions) (tokens : List Token) (text : Text) (span : WildcardSpan) (places : List Bool)
    → IsSpan tokens span → span.last < length tokens → TakesRest o tokens text 0 0
    → places ≡ set (replicate (length text + 1) false) (length text - (length tokens - 1 - span.last)) true
    → AreRests o tokens text (span.last + 1) 0 places
AreRests-after_span o tokens text span places is below all e =
    let l : ℕ = length text in
    let n : ℕ = span.last in
    let p : ℕ = l - (length tokens - 1 - n) in
    let falses : List Bool = replicate (l + 1) false in
    let many : length falses ≡ l + 1 = length-replicate (l + 1) false in
    let some : (j : ℕ) × TakesRest o tokens text (n + 1) j = later-rest o tokens text (n + 1) (omega arith) all in
    let place : some.0 + (length tokens - 1 - n) ≡ l = rest-place o tokens text span is n (omega arith) below some.0 some.1 in
    let same : some.0 ≡ p = omega arith in
    rw e
    (record {
      many = length-set falses p true ∙ many;
      rest = λ k from to.
          ⊎_elim
          (λ (at : k ≡ p). (
            (λ _. subst (TakesRest o tokens text (n + 1)) (same ∙ sym at) some.1),
            (λ _. ap (λ i. get_or (set falses p true) i false) at ∙ get_or-set_same falses p true false (omega (arith, many))),
          ))
          (λ (other : k ≢ p).
          let no : get_or (set falses p true) k false ≡ false = get_or-set_other falses p k true false other
          ∙ get_or-replicate (l + 1) k false false (omega arith) in (
            (λ h. absurd (false≢true (sym no ∙ h))),
            (λ taken. let at : k + (length tokens - 1 - n) ≡ l = rest-place o
                tokens text span is n (omega arith) below k taken in absurd (omega arith)),
          ))
          (cases_eq k p);
    })

-- a wildcard that is not the last one
module _ (tokens : List Token) (span : WildcardSpan) (n : ℕ) (is : IsSpan tokens span) (below : n < length tokens)
    (more : grows (shape_at tokens n) ≡ true) (other : n ≢ span.last) where
  not-before : span.first ≤ n
  not-before = ⊎_elim (λ (early : n < span.first). absurd (false≢true (sym (is.before n early below) ∙ more))) (λ h. h)
      (cases_lt n span.first)

  not-after : n < span.last
  not-after =
      ⊎_elim (λ (late : span.last < n). absurd (false≢true (sym (is.after n late below) ∙ more)))
      (λ (h : n ≤ span.last). let least : n < span.last = omega arith in least)
      (cases_lt span.last n)

  -- such a wildcard has a row
  pub inner-index : span.last - 1 - n < span.last - span.first
  inner-index = omega (arith, not-before, not-after)

  -- the row is for the tokens after it
  pub inner-row : (o : MatchOptions) (text : Text) (rows : List (List Bool)) → AreInnerRests o tokens text span rows
      → AreRests o tokens text (n + 1) 0 (get_or rows (span.last - 1 - n) [])
  inner-row o text rows rests =
      let i : ℕ = span.last - 1 - n in
      let late : n < span.last = not-after in
      let here : n ≡ span.last - i - 1 = omega arith in
      let next : span.last - i ≡ n + 1 = omega arith in
      subst (λ m. AreRests o tokens text m 0 (get_or rows i [])) next
      (rests.row i inner-index (subst (λ m. IsTrue (grows (shape_at tokens m))) here more))
