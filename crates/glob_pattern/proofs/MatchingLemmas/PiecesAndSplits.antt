-- A text is a concatenation of allowed pieces exactly when it splits over the table of the tokens and the text.
use Rattle.std.proofs.Common.{◌≡◌, ℕ, ◌+◌, ◌-◌, ◌<◌, ◌≤◌, ◌⊎◌, inl, inr, ⊎_elim, ◌==◌, List, [], ◌∷◌, ◌++◌, length}
use Rattle.std.proofs.Common.{take, drop, map, IsTrue, slice_index, refl, sym, ap, subst, ◌∙◌, arith}
use Rattle.std.proofs.lemmas.List.{take-append-drop, drop-drop, take_more, take_all, length-take-le, length-drop}
use Rattle.std.proofs.lemmas.List.{nil_from_length, length-append, get_or_at, drop_all}
use Rattle.std.proofs.lemmas.Bool.{or_cases, or_right, eqb-true, eq-eqb}
use Rattle.std.specs.List.{concat}
use Rattle.glob_text.specs.Characters.{slash}
use Rattle.glob_text.specs.Text.{Text, opens}
use Rattle.glob_pattern.specs.Grammar.Tokens.{Token, shape_of}
use Rattle.glob_pattern.specs.Matching.Taking.{takes}
use Rattle.glob_pattern.specs.Matching.Texts.{TakesPiece, EndsInSlash, HasForm, AreAllowed, TokensMatch}
use Rattle.glob_pattern.specs.Matching.Splits.{Table, MayReach, TakesAll, SplitsFrom, Splits}
use Rattle.glob_pattern.specs.Private.TextTable.{table_of}
use Rattle.glob_pattern.specs.declared.options.MatchOptions.{MatchOptions}
use Rattle.glob_pattern.specs.declared.token.Token.TheVariants.{Literal, AnyChar, AnySequence, Recursive, OneOf, NoneOf}
use Rattle.glob_pattern.proofs.Places.{get_or-at_drop, drop-at_drop, length-at_end, drop-after_piece, get_or-in_piece, length-after_piece}
use Rattle.glob_pattern.proofs.MatchingLemmas.Splits.{MayReach-le, SplitsFrom-within}

-- what the table says of the token at number n
pub takes-at : (o : MatchOptions) (all : List Token) (text : Text) (n k : ℕ) (t : Token) (ts : List Token)
    → drop n all ≡ t ∷ ts → (table_of o all text).takes n k ≡ takes o (opens text k) (slice_index text k) t
unfolding table_of
takes-at o all text n k t ts e = ap (takes o (opens text k) (slice_index text k)) (get_or-at_drop all ts n t AnyChar e)

-- a piece that the token takes is taken by the table
pub TakesAll-from_piece : (o : MatchOptions) (all : List Token) (text piece rest : Text) (n i : ℕ) (t : Token)
    (ts : List Token) → drop n all ≡ t ∷ ts → drop i text ≡ piece ++ rest → TakesPiece o text t i piece → TakesAll
    (table_of o all text) n i (i + length piece)
TakesAll-from_piece o all text piece rest n i t ts e p h k low high =
    let m : ℕ = k - i in
    let at : i + m ≡ k = omega arith in
    let below : m < length piece = omega arith in
    let here : IsTrue (takes o (opens text (i + m)) (slice_index text (i + m)) t) =
    subst (λ c. IsTrue (takes o (opens text (i + m)) c t)) (sym (get_or-in_piece text piece rest i m 0 p below)) (h m below) in
    takes-at o all text n k t ts e ∙ subst (λ q. IsTrue (takes o (opens text q) (slice_index text q) t)) at here

-- what the table takes is a piece that the token takes
pub TakesPiece-from_all : (o : MatchOptions) (all : List Token) (text piece rest : Text) (n i : ℕ) (t : Token)
    (ts : List Token) → drop n all ≡ t ∷ ts → drop i text ≡ piece ++ rest → TakesAll (table_of o all text) n i
    (i + length piece) → TakesPiece o text t i piece
TakesPiece-from_all o all text piece rest n i t ts e p h m below =
    subst (λ c. IsTrue (takes o (opens text (i + m)) c t)) (get_or-in_piece text piece rest i m 0 p below)
    (sym (takes-at o all text n (i + m) t ts e) ∙ h (i + m) (omega arith) (omega arith))

-- a piece at place i that ends in `/` ends where a component begins
pub opens-after_slash : (text piece rest front : Text) (i : ℕ) → drop i text ≡ piece ++ rest → piece ≡ front ++ slash ∷
    [] → IsTrue (opens text (i + length piece))
opens-after_slash text piece rest front i p e =
    let l : length piece ≡ length front + 1 = ap length e ∙ length-append front (slash ∷ []) in
    let at : i + length piece - 1 ≡ i + length front = omega arith in
    let c : slice_index text (i + length piece - 1) ≡ slash =
    ap (slice_index text) at ∙ get_or-in_piece text piece rest i (length front) 0 p (omega arith)
    ∙ ap (λ zs. slice_index zs (length front)) e ∙ get_or_at front slash [] 0 (length front) refl in
    or_right (i + length piece == 0) (slice_index text (i + length piece - 1) == slash) (eq-eqb _ _ c)

-- a list is its front and its last element
list_at_last : (xs : Text) (n c : ℕ) → length xs ≡ n + 1 → slice_index xs n ≡ c → xs ≡ take n xs ++ c ∷ []
list_at_last xs n c l e =
    sym (take_all (n + 1) xs (omega arith)) ∙ take_more xs n 0 (omega arith) ∙ ap (λ x. take n xs ++ x ∷ []) e

-- a piece at place i that ends where a component begins is empty or ends in `/`
pub EndsInSlash-from_opens : (text piece rest : Text) (i : ℕ) → drop i text ≡ piece ++ rest → IsTrue
    (opens text (i + length piece)) → (piece ≡ []) ⊎ EndsInSlash piece
EndsInSlash-from_opens text [] rest i p h = inl refl
EndsInSlash-from_opens text (x ∷ xs) rest i p h =
    let piece : Text = x ∷ xs in
    let n : ℕ = length xs in
    let at : i + length piece - 1 ≡ i + n = omega arith in
    let last : IsTrue (slice_index text (i + length piece - 1) == slash) =
    ⊎_elim (λ z. absurd (omega (arith, eqb-true (i + length piece) 0 z))) (λ s. s) (or_cases (i + length piece == 0) _ h) in
    let c : slice_index piece n ≡ slash =
    sym (get_or-in_piece text piece rest i n 0 p (omega arith)) ∙ sym (ap (slice_index text) at) ∙ eqb-true _ _ last in
    inr (take n piece, list_at_last piece n slash (omega arith) c)

-- a piece of the token's form reaches from its place to its end
pub MayReach-from_form : (o : MatchOptions) (all : List Token) (text piece rest : Text) (i : ℕ) (t : Token)
    (ts : List Token) → drop i text ≡ piece ++ rest → HasForm t ts piece → MayReach (table_of o all text) (shape_of t)
    (map shape_of ts) i (i + length piece)
unfolding table_of
MayReach-from_form o all text piece rest i (Literal c) ts p h = omega arith
MayReach-from_form o all text piece rest i AnyChar ts p h = omega arith
MayReach-from_form o all text piece rest i AnySequence ts p h = omega arith
MayReach-from_form o all text piece rest i Recursive ts p h = (
  omega arith,
  ⊎_elim (λ e. inl (ap (map shape_of) e)) (λ others. inr (⊎_elim (λ e. inl (none e))
      (λ e. inr (opens-after_slash text piece rest e.0 i p e.1)) others)) h,
)
  where
    none : piece ≡ [] → i + length piece ≡ i
    none e = let l : length piece ≡ 0 = ap length e in omega arith
MayReach-from_form o all text piece rest i (OneOf entries) ts p h = omega arith
MayReach-from_form o all text piece rest i (NoneOf entries) ts p h = omega arith

-- if no shape follows, no token does
no_tokens : (ts : List Token) → map shape_of ts ≡ [] → ts ≡ []
no_tokens [] e = refl
no_tokens (t ∷ ts) e = cc

-- what reaches from a place to another is a piece of the token's form
pub HasForm-from_reach : (o : MatchOptions) (all : List Token) (text piece rest : Text) (i : ℕ) (t : Token)
    (ts : List Token) → drop i text ≡ piece ++ rest → MayReach (table_of o all text) (shape_of t) (map shape_of ts) i
    (i + length piece) → HasForm t ts piece
unfolding table_of
HasForm-from_reach o all text piece rest i (Literal c) ts p h = omega arith
HasForm-from_reach o all text piece rest i AnyChar ts p h = omega arith
HasForm-from_reach o all text piece rest i AnySequence ts p h = tt
HasForm-from_reach o all text piece rest i Recursive ts p h =
    ⊎_elim (λ e. inl (no_tokens ts e)) (λ others. inr (⊎_elim (λ e. inl (nil_from_length piece (omega arith)))
    (λ e. EndsInSlash-from_opens text piece rest i p e) others)) h.1
HasForm-from_reach o all text piece rest i (OneOf entries) ts p h = omega arith
HasForm-from_reach o all text piece rest i (NoneOf entries) ts p h = omega arith

-- allowed pieces that make up the text from place k on split it from there
pub SplitsFrom-from_pieces : (o : MatchOptions) (all rest : List Token) (text : Text) (n k : ℕ) (pieces : List Text)
    → drop n all ≡ rest → drop k text ≡ concat pieces → k ≤ length text → AreAllowed o text k rest pieces → SplitsFrom
    (table_of o all text) n (map shape_of rest) k
unfolding table_of
SplitsFrom-from_pieces o all [] text n k [] e p h a = length-at_end text k p h
SplitsFrom-from_pieces o all [] text n k (piece ∷ pieces) e p h a = absurd a
SplitsFrom-from_pieces o all (t ∷ ts) text n k [] e p h a = absurd a
SplitsFrom-from_pieces o all (t ∷ ts) text n k (piece ∷ pieces) e p h (took, form, others) = (
  k + length piece,
  MayReach-from_form o all text piece (concat pieces) k t ts p form,
  TakesAll-from_piece o all text piece (concat pieces) n k t ts e p took,
  SplitsFrom-from_pieces o all ts text (n + 1) (k + length piece) pieces (drop-at_drop all ts n t e)
      (drop-after_piece text piece (concat pieces) k p) (length-after_piece text piece (concat pieces) k p h) others,
)

-- the text from place k on is made up of pieces that are allowed for the tokens
abbrev pub PiecesFrom : MatchOptions → Text → ℕ → List Token → Type 0
PiecesFrom o text k tokens = (pieces : List Text) × (drop k text ≡ concat pieces) × AreAllowed o text k tokens pieces

-- the piece from place i up to place j
piece_up_to : (text : Text) (i j : ℕ) → i ≤ j → j ≤ length text → (piece : Text) × (j ≡ i + length piece) ×
    (drop i text ≡ piece ++ drop j text)
piece_up_to text i j low high =
    let m : ℕ = j - i in
    let at : i + m ≡ j = omega arith in
    let left : length (drop i text) ≡ length text - i = length-drop i text in
    let l : length (take m (drop i text)) ≡ m = length-take-le m (drop i text) (omega arith) in (
      take m (drop i text),
      omega arith,
      sym (take-append-drop m (drop i text)) ∙ ap (λ zs. take m (drop i text) ++ zs) (drop-drop m i text ∙ ap (λ k. drop k text) at),
    )

-- a first piece that the table takes before allowed pieces
pieces-step : (o : MatchOptions) (all : List Token) (text piece : Text) (n i j : ℕ) (t : Token) (ts : List Token)
    → drop n all ≡ t ∷ ts → j ≡ i + length piece → drop i text ≡ piece ++ drop j text → MayReach (table_of o all text)
    (shape_of t) (map shape_of ts) i j → TakesAll (table_of o all text) n i j → PiecesFrom o text j ts → PiecesFrom o
    text i (t ∷ ts)
pieces-step o all text piece n i j t ts e at p reach took (pieces, q, others) =
    let table : Table = table_of o all text in
    let r : drop i text ≡ piece ++ concat pieces = p ∙ ap (λ zs. piece ++ zs) q in (
      piece ∷ pieces,
      r,
      (
        TakesPiece-from_all o all text piece (concat pieces) n i t ts e r (subst (TakesAll table n i) at took),
        HasForm-from_reach o all text piece (concat pieces) i t ts r (subst (MayReach table (shape_of t) (map shape_of ts) i) at reach),
        subst (λ k. AreAllowed o text k ts pieces) at others,
      ),
    )

-- a split from place k on gives allowed pieces from there
pub pieces-from_SplitsFrom : (o : MatchOptions) (all rest : List Token) (text : Text) (n k : ℕ) → drop n all ≡ rest
    → SplitsFrom (table_of o all text) n (map shape_of rest) k → PiecesFrom o text k rest
unfolding table_of
pieces-from_SplitsFrom o all [] text n k e h = ([], drop_all k text (omega arith), tt)
pieces-from_SplitsFrom o all (t ∷ ts) text n k e (j, reach, took, others) =
    let table : Table = table_of o all text in
    let piece : (piece : Text) × (j ≡ k + length piece) × (drop k text ≡ piece ++ drop j text) =
    piece_up_to text k j (MayReach-le table (shape_of t) (map shape_of ts) k j reach) (SplitsFrom-within table (n + 1)
    (map shape_of ts) j others) in
    pieces-step o all text piece.0 n k j t ts e piece.1 piece.2 reach took
    (pieces-from_SplitsFrom o all ts text (n + 1) j (drop-at_drop all ts n t e) others)

-- tokens that match a text split it over their table
pub Splits-from_TokensMatch : (o : MatchOptions) (tokens : List Token) (text : Text) → TokensMatch o tokens text
    → Splits (table_of o tokens text) (map shape_of tokens)
unfolding TokensMatch
Splits-from_TokensMatch o tokens text (pieces, e, allowed) = SplitsFrom-from_pieces o tokens tokens text 0 0 pieces
    refl (sym e) (omega arith) allowed

-- if a text splits over the table of the tokens, they match it
pub TokensMatch-from_Splits : (o : MatchOptions) (tokens : List Token) (text : Text) → Splits (table_of o tokens text)
    (map shape_of tokens) → TokensMatch o tokens text
unfolding TokensMatch
TokensMatch-from_Splits o tokens text h =
    let found : PiecesFrom o text 0 tokens = pieces-from_SplitsFrom o tokens tokens text 0 0 refl h in
    (found.0, sym found.1, found.2)
