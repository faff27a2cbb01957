-- The first place where a piece may end is the end of its shortest piece.
use Rattle.std.proofs.Common.{◌≡◌, ◌≢◌, ℕ, ◌+◌, ◌<◌, ◌≤◌, ◌↔◌, inl, inr, ⊎_elim, Bool, true, false, ◌||◌, ◌==◌, not}
use Rattle.std.proofs.Common.{List, [], ◌∷◌, ◌++◌, length, get_or, map, IsTrue, refl, sym, subst, ◌∙◌, arith}
use Rattle.std.proofs.Common.{append_assoc}
use Rattle.std.proofs.lemmas.Bool.{cases_lt, false≢true, or_cases, or_left, or_right, eqb-true, eq-eqb, and_parts, and_from}
use Rattle.std.proofs.lemmas.List.{drop_all, length-map, append-nil}
use Rattle.glob_text.specs.Text.{Text, opens}
use Rattle.glob_pattern.specs.Grammar.Tokens.{Token, shape_of}
use Rattle.glob_pattern.specs.Matching.Splits.{Table, MayReach, TakesAll, SplitsFrom}
use Rattle.glob_pattern.specs.Private.TextTable.{table_of}
use Rattle.glob_pattern.specs.declared.matcher.Shape.{Shape}
use Rattle.glob_pattern.specs.declared.matcher.Shape.TheVariants.{One, Run, Deep}
use Rattle.glob_pattern.specs.declared.options.MatchOptions.{MatchOptions}
use Rattle.glob_pattern.proofs.MatchingLemmas.Splits.{MayReach-le, SplitsFrom-within}
use Rattle.glob_captures.specs.declared.steps.Form.{Form}
use Rattle.glob_captures.specs.declared.piece.Piece.{Piece}
use Rattle.glob_captures.specs.Writing.{byte_place}
use Rattle.glob_captures.specs.Private.Rests.{grows, closes, shape_at, shapes_from, IsFormAt, TakesRest, AreRests}
use Rattle.glob_captures.specs.Private.Ends.{IsShortestEnd, AreShortestEnds, places_between, HasShortestEnds, LacksOnly}
use Rattle.glob_captures.specs.Private.Ends.{may_end, IsFirstEnd}
use Rattle.glob_captures.proofs.RestLemmas.Rows.{shapes-at}

-- up to where a piece reaches, as a test
reach-test : (table : Table) (shape : Shape) (others : List Shape) (i j : ℕ) → IsTrue (grows shape) → MayReach table
    shape others i j → IsTrue (j == i || (not (closes shape others) || table.opens j))
reach-test table One others i j more reach = absurd (false≢true more)
reach-test table Run others i j more reach = or_right (j == i) true refl
reach-test table Deep [] i j more reach = or_right (j == i) true refl
reach-test table Deep (s ∷ ss) i j more (low, ends) =
    ⊎_elim (λ e. let none : s ∷ ss ≢ [] = λ h. cc in absurd (none e))
    (⊎_elim (λ e. or_left (j == i) (table.opens j) (eq-eqb j i e)) (λ h. or_right (j == i) (table.opens j) h)) ends

test-reach : (table : Table) (shape : Shape) (others : List Shape) (i j : ℕ) → IsTrue (grows shape) → i ≤ j → IsTrue
    (j == i || (not (closes shape others) || table.opens j)) → MayReach table shape others i j
test-reach table One others i j more low test = absurd (false≢true more)
test-reach table Run others i j more low test = low
test-reach table Deep [] i j more low test = (low, inl refl)
test-reach table Deep (s ∷ ss) i j more low test =
    (low, inr (⊎_elim (λ e. inl (eqb-true j i e)) (λ h. inr h) (or_cases (j == i) (table.opens j) test)))

-- the shortest piece of a token whose pieces grow
shortest-growing : (table : Table) (n : ℕ) (shape : Shape) (others : List Shape) (text : Text) (next : List Bool) (ends : Bool) (i end : ℕ)
    → IsTrue (grows shape) → ends ≡ closes shape others → ((j : ℕ) → table.opens j ≡ opens text j) → table.characters ≡ length text
    → ((j : ℕ) → j ≤ length text → IsTrue (get_or next j false) ↔ SplitsFrom table (n + 1) others j)
    → IsFirstEnd ends text next i end → SplitsFrom table n (shape ∷ others) i → IsShortestEnd table n shape others i end
shortest-growing table n shape others text next ends i end more same opening many rests first (m, reach, took, rest) =
    record { reach = reached; took = λ k from below. took k from (omega (arith, short)); rest = whole; least = low }
  where
    -- no earlier place will do
    fits : (j : ℕ) → MayReach table shape others i j → SplitsFrom table (n + 1) others j → IsTrue (may_end ends text next i j)
    fits j may split =
        let within : j ≤ length text = omega (arith, SplitsFrom-within table (n + 1) others j split) in
        let test : IsTrue (j == i || (not ends || opens text j)) =
        subst (λ b. IsTrue (j == i || (not b || opens text j))) (sym same)
        (subst (λ b. IsTrue (j == i || (not (closes shape others) || b))) (opening j) (reach-test table shape others i j more may)) in
        and_from (get_or next j false) (j == i || (not ends || opens text j)) ((rests j within).1 split) test

    low : (j : ℕ) → MayReach table shape others i j → TakesAll table n i j → SplitsFrom table (n + 1) others j → end ≤ j
    low j may all split =
        ⊎_elim (λ early. absurd (first.before j (MayReach-le table shape others i j may) early (fits j may split)))
        (λ h. h) (cases_lt j end)

    short : end ≤ m
    short = low m reach took rest

    within : m ≤ length text
    within = omega (arith, SplitsFrom-within table (n + 1) others m rest)

    here : IsTrue (may_end ends text next i end)
    here =
        ⊎_elim (λ before. first.here before)
        (λ past. let at : m ≡ end = omega (arith, short, within) in subst (λ j. IsTrue (may_end ends text next i j)) at (fits m reach rest))
        (cases_lt end (length text))

    whole : SplitsFrom table (n + 1) others end
    whole = (rests end first.high).0 (and_parts (get_or next end false) (end == i || (not ends || opens text end)) here).0

    reached : MayReach table shape others i end
    reached =
        test-reach table shape others i end more first.low
        (subst (λ b. IsTrue (end == i || (not (closes shape others) || b))) (sym (opening end))
        (subst (λ b. IsTrue (end == i || (not b || opens text end))) same
        (and_parts (get_or next end false) (end == i || (not ends || opens text end)) here).1))

-- the shortest piece of a token that takes one character
shortest-one : (table : Table) (n : ℕ) (shape : Shape) (others : List Shape) (i : ℕ) → grows shape ≡ false
    → SplitsFrom table n (shape ∷ others) i → IsShortestEnd table n shape others i (i + 1)
shortest-one table n One others i fixed (m, reach, took, rest) =
    record {
      reach = refl;
      took = subst (TakesAll table n i) reach took;
      rest = subst (SplitsFrom table (n + 1) others)
          reach rest;
      least = λ j may all split. omega arith;
    }
shortest-one table n Run others i fixed split = absurd (false≢true (sym fixed))
shortest-one table n Deep others i fixed split = absurd (false≢true (sym fixed))

-- a token that takes one character has one to take
room-one : (table : Table) (n : ℕ) (shape : Shape) (others : List Shape) (i : ℕ) → grows shape ≡ false
    → SplitsFrom table n (shape ∷ others) i → i < table.characters
room-one table n One others i fixed (m, reach, took, rest) = omega (arith, SplitsFrom-within table (n + 1) others m rest)
room-one table n Run others i fixed split = absurd (false≢true (sym fixed))
room-one table n Deep others i fixed split = absurd (false≢true (sym fixed))

-- Below, the tokens from number n on take the rest from place i on.
module _ (o : MatchOptions) (tokens : List Token) (text : Text) (n i : ℕ) (form : Form) (below : n < length tokens)
    (is : IsFormAt tokens n form) where
  abbrev table : Table
  table = table_of o tokens text

  split-at : TakesRest o tokens text n i → SplitsFrom table n (shape_at tokens n ∷ shapes_from tokens (n + 1)) i
  unfolding TakesRest
  split-at rest = subst (λ ss. SplitsFrom table n ss i) (shapes-at tokens n below) rest

  -- there is room for a piece of one character
  pub room : form.grows ≡ false → TakesRest o tokens text n i → i < length text
  unfolding table_of
  room fixed rest = room-one table n (shape_at tokens n) (shapes_from tokens (n + 1)) i (sym is.many ∙ fixed) (split-at rest)

  -- a shape that takes one character ends at the next place
  pub shortest_one : form.grows ≡ false → TakesRest o tokens text n i → IsShortestEnd table n (shape_at tokens n)
      (shapes_from tokens (n + 1)) i (i + 1)
  shortest_one fixed rest = shortest-one table n (shape_at tokens n) (shapes_from tokens (n + 1)) i (sym is.many ∙ fixed) (split-at rest)

  -- a longer piece ends at the first place where it may
  pub shortest_first : (next : List Bool) (end : ℕ) → form.grows ≡ true → AreRests o tokens text (n + 1) 0 next
      → IsFirstEnd form.closes text next i end → TakesRest o tokens text n i → IsShortestEnd table n
      (shape_at tokens n) (shapes_from tokens (n + 1)) i end
  unfolding TakesRest table_of
  shortest_first next end more rests first rest =
      shortest-growing table n (shape_at tokens n) (shapes_from tokens (n + 1)) text next form.closes i end
      (sym is.many ∙ more) is.ends (λ j. refl) refl
      (λ j within. rests.rest j (omega arith) within) first (split-at rest)

-- the end of the piece of token n
module _ (o : MatchOptions) (tokens : List Token) (text : Text) (n i : ℕ) (below : n < length tokens) where
  -- one more piece
  pub LacksOnly-more : (found : List Piece) (end : ℕ) → IsShortestEnd (table_of o tokens text) n (shape_at tokens n)
      (shapes_from tokens (n + 1)) i end → LacksOnly o tokens text n i found → LacksOnly o tokens text (n + 1) end
      (found ++ record { start = byte_place text i; end = byte_place text end } ∷ [])
  unfolding LacksOnly
  LacksOnly-more found end shortest lacks = λ ends are.
      subst (HasShortestEnds o tokens text) (sym (append_assoc found _ (places_between text end ends)))
      (lacks (end ∷ ends) (subst (λ ss. AreShortestEnds (table_of o tokens text) n ss i (end ∷ ends))
      (sym (shapes-at tokens n below)) (shortest, are)))

  -- and the tokens after it take the rest from its end on
  pub TakesRest-after : (end : ℕ) → IsShortestEnd (table_of o tokens text) n (shape_at tokens n) (shapes_from tokens
      (n + 1)) i end → TakesRest o tokens text (n + 1) end
  unfolding TakesRest
  TakesRest-after end shortest = shortest.rest

-- at first no piece is found
pub LacksOnly-start : (o : MatchOptions) (tokens : List Token) (text : Text) → LacksOnly o tokens text 0 0 []
unfolding LacksOnly HasShortestEnds
LacksOnly-start o tokens text = λ ends are. (ends, are, refl)

-- at last all pieces are found
pub HasShortestEnds-all : (o : MatchOptions) (tokens : List Token) (text : Text) (i : ℕ) (found : List Piece)
    → TakesRest o tokens text (length tokens) i → LacksOnly o tokens text (length tokens) i found → HasShortestEnds o
    tokens text found
unfolding LacksOnly TakesRest
HasShortestEnds-all o tokens text i found rest lacks =
    let none : shapes_from tokens (length tokens) ≡ [] = drop_all (length tokens) (map shape_of tokens)
    (omega (arith, length-map tokens shape_of)) in
    let at : i ≡ (table_of o tokens text).characters = subst (λ ss. SplitsFrom (table_of o tokens text) (length tokens) ss i) none rest in
    subst (HasShortestEnds o tokens text) (append-nil found)
    (lacks [] (subst (λ ss. AreShortestEnds (table_of o tokens text) (length tokens) ss i []) (sym none) at))
