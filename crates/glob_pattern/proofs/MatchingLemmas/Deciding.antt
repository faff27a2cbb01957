-- The computed answer is yes exactly when the tokens match the text.
use Rattle.std.proofs.Common.{◌≡◌, ℕ, suc, ◌+◌, ◌-◌, ◌≤◌, inl, ⊎_elim, Bool, true, false, ◌&&◌, ◌||◌, ◌==◌, List, []}
use Rattle.std.proofs.Common.{◌∷◌, length, drop, map, IsTrue, Decides, slice_index, Result, Ok, Err, refl, sym, ap, ap₂}
use Rattle.std.proofs.Common.{◌∙◌, arith}
use Rattle.std.proofs.lemmas.Bool.{false≢true, ne_eqb}
use Rattle.std.proofs.lemmas.Bool.Decides.{Decides-at, Decides-like, Decides-and, Decides-or}
use Rattle.glob_text.specs.Characters.{slash}
use Rattle.glob_text.specs.Text.{Text, opens}
use Rattle.glob_pattern.specs.Grammar.Tokens.{Token, shape_of}
use Rattle.glob_pattern.specs.Matching.Taking.{takes}
use Rattle.glob_pattern.specs.Grammar.Units.{HasTokens}
use Rattle.glob_pattern.specs.Matching.Texts.{TokensMatch, Matches}
use Rattle.glob_pattern.specs.Grammar.Faults.{Fault}
use Rattle.glob_pattern.specs.Computing.Reading.{reading_of}
use Rattle.glob_pattern.specs.Matching.Splits.{Table, SplitsFrom, Splits}
use Rattle.glob_pattern.specs.Private.TextTable.{table_of}
use Rattle.glob_pattern.specs.Computing.Deciding.{characters_with_openings, first_answer, one_character_answers}
use Rattle.glob_pattern.specs.Computing.Deciding.{run_answers, component_answers, tokens_answers, tokens_match}
use Rattle.glob_pattern.specs.Computing.Deciding.{match_of_reading, is_match}
use Rattle.glob_pattern.specs.declared.options.MatchOptions.{MatchOptions}
use Rattle.glob_pattern.specs.declared.matcher.Shape.TheVariants as shape
use Rattle.glob_pattern.specs.declared.token.Token.TheVariants.{Literal, AnyChar, AnySequence, Recursive, OneOf, NoneOf}
use Rattle.glob_pattern.proofs.Places.{get_or-at_drop, drop-at_drop, length-at_drop, length-at_end}
use Rattle.glob_pattern.proofs.MatchingLemmas.Splits.{SplitsMany, SplitsClosed, SplitsFrom-within, SplitsFrom-one}
use Rattle.glob_pattern.proofs.MatchingLemmas.Splits.{one-from_SplitsFrom, SplitsMany-within, SplitsClosed-within}
use Rattle.glob_pattern.proofs.MatchingLemmas.Splits.{SplitsMany-cases, SplitsMany-from, SplitsClosed-cases}
use Rattle.glob_pattern.proofs.MatchingLemmas.Splits.{SplitsClosed-from, SplitsFrom-last_deep, many-from_last_deep}
use Rattle.glob_pattern.proofs.MatchingLemmas.Splits.{SplitsFrom-deep, deep-from_SplitsFrom}
use Rattle.glob_pattern.proofs.MatchingLemmas.PiecesAndSplits.{takes-at, Splits-from_TokensMatch, TokensMatch-from_Splits}
use Rattle.glob_pattern.proofs.MatchingLemmas.Rests.{tokens_match_rest, first_answer-joined_answers}
use Rattle.glob_pattern.proofs.MatchingLemmas.Rests.{first_answer-one_character_answers, first_answer-run_answers}
use Rattle.glob_pattern.proofs.MatchingLemmas.Rests.{first_answer-component_answers}

-- a component begins after a character exactly when that is `/`
pub opens-next : (text : Text) (k c : ℕ) (cs : Text) → drop k text ≡ c ∷ cs → (c == slash) ≡ opens text (k + 1)
opens-next text k c cs e =
    let back : k + 1 - 1 ≡ k = omega arith in
    let at : slice_index text (k + 1 - 1) ≡ c = ap (slice_index text) back ∙ get_or-at_drop text cs k c 0 e in
    sym (ap₂ (λ b x. b || x == slash) (ne_eqb (k + 1) 0 (λ z. omega arith)) at)

-- a token takes a character as the table says
pub Decides-takes : (o : MatchOptions) (all : List Token) (text : Text) (n k c : ℕ) (b : Bool) (t : Token)
    (ts : List Token) (cs : Text) → drop n all ≡ t ∷ ts → b ≡ opens text k → drop k text ≡ c ∷ cs → Decides
    (takes o b c t) (IsTrue ((table_of o all text).takes n k))
Decides-takes o all text n k c b t ts cs e p q =
    let same : (table_of o all text).takes n k ≡ takes o b c t =
    takes-at o all text n k t ts e ∙ ap₂ (λ y x. takes o y x t) (sym p) (get_or-at_drop text cs k c 0 q) in
    ((λ h. same ∙ h), (λ h. sym same ∙ h))

-- the answer no decides what is impossible
decides_no : {P : Type 0} → ¬ P → Decides false P
decides_no h = ((λ e. absurd (false≢true e)), (λ p. absurd (h p)))

-- What follows a token is decided: whether the tokens after it, numbered from n on, match the rests of the text.
abbrev pub RestsDecided : MatchOptions → List Token → Text → ℕ → List Token → Type 0
RestsDecided o all text n ts =
    (cs : Text) (k : ℕ) (b : Bool) → b ≡ opens text k → drop k text ≡ cs → k ≤ length text
    → Decides (tokens_match_rest o ts (characters_with_openings b cs)) (SplitsFrom (table_of o all text) n (map shape_of ts) k)

-- no token is left
Decides-none : (o : MatchOptions) (all : List Token) (text : Text) (n : ℕ) → RestsDecided o all text n []
unfolding table_of
Decides-none o all text n [] k b p q h = ((λ _. length-at_end text k q h), (λ _. refl))
Decides-none o all text n (c ∷ cs) k b p q h =
    decides_no (λ e. let l : length text ≡ k + suc (length cs) = length-at_drop text cs k c q in omega arith)

-- a first token that takes one character
Decides-one : (o : MatchOptions) (all : List Token) (text : Text) (n : ℕ) (t : Token) (ts : List Token) → drop n all ≡
    t ∷ ts → RestsDecided o all text (n + 1) ts
    → (cs : Text) (k : ℕ) (b : Bool) → b ≡ opens text k → drop k text ≡ cs → k ≤ length text
    → Decides (first_answer (one_character_answers o t (characters_with_openings b cs) (tokens_answers o ts
    (characters_with_openings b cs)))) (SplitsFrom (table_of o all text) n (shape.One ∷ map shape_of ts) k)
unfolding table_of
Decides-one o all text n t ts e next [] k b p q h =
    let end : k ≡ length text = length-at_end text k q h in
    decides_no (λ s. omega (
      arith,
      SplitsFrom-within (table_of o all text) (n + 1) (map shape_of ts) (k + 1)
          (one-from_SplitsFrom (table_of o all text) n (map shape_of ts) k s).1,
    ))
Decides-one o all text n t ts e next (c ∷ cs) k b p q h =
    let table : Table = table_of o all text in
    let l : length text ≡ k + suc (length cs) = length-at_drop text cs k c q in
    Decides-at _ _ (first_answer-one_character_answers o t ts (b, c) (characters_with_openings (c == slash) cs))
    (Decides-like _ (SplitsFrom-one table n (map shape_of ts) k) (one-from_SplitsFrom table n (map shape_of ts) k)
    (Decides-and (takes o b c t) _ (Decides-takes o all text n k c b t ts cs e p q)
    (next cs (k + 1) (c == slash) (opens-next text k c cs q) (drop-at_drop text cs k c q) (omega arith))))

-- a first token that takes any number of characters
Decides-many : (o : MatchOptions) (all : List Token) (text : Text) (n : ℕ) (t : Token) (ts : List Token) → drop n all ≡
    t ∷ ts → RestsDecided o all text (n + 1) ts
    → (cs : Text) (k : ℕ) (b : Bool) → b ≡ opens text k → drop k text ≡ cs → k ≤ length text
    → Decides (first_answer (run_answers o t (characters_with_openings b cs) (tokens_answers o ts
    (characters_with_openings b cs)))) (SplitsMany (table_of o all text) n (map shape_of ts) k)
unfolding table_of
Decides-many o all text n t ts e next [] k b p q h =
    let table : Table = table_of o all text in
    let end : k ≡ length text = length-at_end text k q h in
    Decides-like _ (λ s. SplitsMany-from table n (map shape_of ts) k (inl s))
    (λ s. ⊎_elim (λ here. here) (λ more. absurd (omega (
      arith,
      SplitsMany-within table n (map shape_of ts)
          (k + 1) more.1,
    ))) (SplitsMany-cases table n (map shape_of ts) k s))
    (next [] k b p q h)
Decides-many o all text n t ts e next (c ∷ cs) k b p q h =
    let table : Table = table_of o all text in
    let l : length text ≡ k + suc (length cs) = length-at_drop text cs k c q in
    Decides-at _ _ (first_answer-run_answers o t ts (b, c) (characters_with_openings (c == slash) cs))
    (Decides-like _ (SplitsMany-from table n (map shape_of ts) k) (SplitsMany-cases table n (map shape_of ts) k)
    (Decides-or (tokens_match_rest o ts (characters_with_openings b (c ∷ cs))) _ (next (c ∷ cs) k b p q h)
    (Decides-and (takes o b c t) _ (Decides-takes o all text n k c b t ts cs e p q)
    (Decides-many o all text n t ts e next cs (k + 1) (c == slash) (opens-next text k c cs q) (drop-at_drop text cs k c q) (omega arith)))))

-- a first token that takes one or more characters, up to where a component begins
Decides-closed : (o : MatchOptions) (all : List Token) (text : Text) (n : ℕ) (t : Token) (ts : List Token)
    → drop n all ≡ t ∷ ts → RestsDecided o all text (n + 1) ts
    → (cs : Text) (k : ℕ) (b : Bool) → b ≡ opens text k → drop k text ≡ cs → k ≤ length text
    → Decides (first_answer (component_answers o t (characters_with_openings b cs) (tokens_answers o ts
    (characters_with_openings b cs)))) (SplitsClosed (table_of o all text) n (map shape_of ts) k)
unfolding table_of
Decides-closed o all text n t ts e next [] k b p q h =
    let end : k ≡ length text = length-at_end text k q h in
    decides_no (λ s. omega (arith, SplitsClosed-within (table_of o all text) n (map shape_of ts) k s))
Decides-closed o all text n t ts e next (c ∷ cs) k b p q h =
    let table : Table = table_of o all text in
    let l : length text ≡ k + suc (length cs) = length-at_drop text cs k c q in
    let opening : (c == slash) ≡ opens text (k + 1) = opens-next text k c cs q in
    let after : drop (k + 1) text ≡ cs = drop-at_drop text cs k c q in
    Decides-at _ _ (first_answer-component_answers o t ts b c (characters_with_openings (c == slash) cs))
    (Decides-like _ (SplitsClosed-from table n (map shape_of ts) k) (SplitsClosed-cases table n (map shape_of ts) k)
    (Decides-and (takes o b c t) _ (Decides-takes o all text n k c b t ts cs e p q)
    (Decides-or ((c == slash) && tokens_match_rest o ts (characters_with_openings (c == slash) cs)) _
    (Decides-and (c == slash) _ ((λ s. sym opening ∙ s), (λ s. opening ∙ s)) (next cs (k + 1) (c == slash) opening after (omega arith)))
    (Decides-closed o all text n t ts e next cs (k + 1) (c == slash) opening after (omega arith)))))

-- the decider's rests are decided, for the tokens from number n on
pub Decides-rests : (o : MatchOptions) (all : List Token) (text : Text) (ts : List Token) (n : ℕ) → drop n all ≡ ts
    → RestsDecided o all text n ts
Decides-rests o all text [] n e = Decides-none o all text n
Decides-rests o all text (Literal c ∷ ts) n e = Decides-one o all text n (Literal c) ts e (Decides-rests o all text ts
    (n + 1) (drop-at_drop all ts n (Literal c) e))
Decides-rests o all text (AnyChar ∷ ts) n e = Decides-one o all text n AnyChar ts e (Decides-rests o all text ts
    (n + 1) (drop-at_drop all ts n AnyChar e))
Decides-rests o all text (AnySequence ∷ ts) n e = Decides-many o all text n AnySequence ts e
    (Decides-rests o all text ts (n + 1) (drop-at_drop all ts n AnySequence e))
Decides-rests o all text (Recursive ∷ []) n e = λ cs k b p q h.
    let table : Table = table_of o all text in
    Decides-like _ (SplitsFrom-last_deep table n k) (many-from_last_deep table n k)
    (Decides-many o all text n Recursive [] e (Decides-rests o all text [] (n + 1) (drop-at_drop all [] n Recursive e)) cs k b p q h)
Decides-rests o all text (Recursive ∷ t ∷ ts) n e =
    let table : Table = table_of o all text in
    let next : RestsDecided o all text (n + 1) (t ∷ ts) = Decides-rests o all text (t ∷ ts) (n + 1) (drop-at_drop all
    (t ∷ ts) n Recursive e) in
    λ cs k b p q h.
    Decides-at _ _ (first_answer-joined_answers (tokens_answers o (t ∷ ts) (characters_with_openings b cs))
    (component_answers o Recursive (characters_with_openings b cs) (tokens_answers o (t ∷ ts)
    (characters_with_openings b cs))))
    (Decides-like _ (SplitsFrom-deep table n (shape_of t) (map shape_of ts) k) (deep-from_SplitsFrom table n
    (shape_of t) (map shape_of ts) k)
    (Decides-or (tokens_match_rest o (t ∷ ts) (characters_with_openings b cs)) _ (next cs k b p q h)
    (Decides-closed o all text n Recursive (t ∷ ts) e next cs k b p q h)))
Decides-rests o all text (OneOf entries ∷ ts) n e = Decides-one o all text n (OneOf entries) ts e
    (Decides-rests o all text ts (n + 1) (drop-at_drop all ts n (OneOf entries) e))
Decides-rests o all text (NoneOf entries ∷ ts) n e = Decides-one o all text n (NoneOf entries) ts e
    (Decides-rests o all text ts (n + 1) (drop-at_drop all ts n (NoneOf entries) e))

-- the decider answers whether a text splits over the table of the tokens
pub Decides-Splits : (o : MatchOptions) (tokens : List Token) (text : Text) → Decides (tokens_match o tokens text)
    (Splits (table_of o tokens text) (map shape_of tokens))
unfolding tokens_match
Decides-Splits o tokens text = Decides-rests o tokens text tokens 0 refl text 0 true refl refl (omega arith)

-- the decider answers whether the tokens match the text
pub Decides-TokensMatch : (o : MatchOptions) (tokens : List Token) (text : Text) → Decides (tokens_match o tokens text)
    (TokensMatch o tokens text)
Decides-TokensMatch o tokens text =
    Decides-like (tokens_match o tokens text) (TokensMatch-from_Splits o tokens text) (Splits-from_TokensMatch o tokens
    text) (Decides-Splits o tokens text)

-- a yes of the decider is a match
pub TokensMatch-from_decider : (o : MatchOptions) (tokens : List Token) (text : Text) → tokens_match o tokens text ≡
    true → TokensMatch o tokens text
TokensMatch-from_decider o tokens text = (Decides-TokensMatch o tokens text).0

-- the decider says yes to a match
pub decider-from_TokensMatch : (o : MatchOptions) (tokens : List Token) (text : Text) → TokensMatch o tokens text
    → tokens_match o tokens text ≡ true
decider-from_TokensMatch o tokens text = (Decides-TokensMatch o tokens text).1

-- if the answer for a reading is yes, tokens were read, and the answer for them is yes
match_of_reading-tells : (o : MatchOptions) (read : Result (List Token) Fault) (text : Text) → match_of_reading o read
    text ≡ true → (tokens : List Token) × (read ≡ Ok tokens) × (tokens_match o tokens text ≡ true)
match_of_reading-tells o (Ok tokens) text h = (tokens, refl, h)
match_of_reading-tells o (Err fault) text h = absurd (false≢true h)

-- a pattern is read as the grammar says
abbrev pub IsReadAs : (pattern : Text) → Type 0
IsReadAs pattern =
    (tokens : List Token) → (HasTokens pattern tokens → reading_of pattern ≡ Ok tokens) ×
    (reading_of pattern ≡ Ok tokens → HasTokens pattern tokens)

-- the decider answers whether the pattern matches the text
pub Decides-Matches : (o : MatchOptions) (pattern text : Text) → IsReadAs pattern → Decides (is_match o pattern text)
    (Matches o pattern text)
unfolding is_match Matches
Decides-Matches o pattern text reading = (
  (λ h. let told : (tokens : List Token) × (reading_of pattern ≡ Ok tokens) × (tokens_match o tokens text ≡ true) =
      match_of_reading-tells o (reading_of pattern) text h in
      (told.0, (reading told.0).1 told.1, TokensMatch-from_decider o told.0 text told.2)),
  (λ m. ap (λ read. match_of_reading o read text) ((reading m.0).0 m.1) ∙ decider-from_TokensMatch o m.0 text m.2),
)
