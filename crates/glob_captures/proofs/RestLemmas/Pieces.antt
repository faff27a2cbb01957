-- The ends of the shortest pieces are the shortest ends, and every match has them.
use Rattle.std.proofs.Common.{◌≡◌, ℕ, ◌+◌, ◌-◌, ◌≤◌, inl, inr, ⊎_elim, List, [], ◌∷◌, ◌++◌, length, take, drop, map}
use Rattle.std.proofs.Common.{refl, sym, ap, ap₂, subst, ◌∙◌, arith}
use Rattle.std.specs.Prelude.{encode_utf8_all}
use Rattle.std.specs.List.{concat}
use Rattle.std.proofs.lemmas.Bool.{cases_eq}
use Rattle.std.proofs.lemmas.List.{drop_all, take-append-drop, drop-drop, length-take-le, length-drop}
use Rattle.glob_text.specs.Text.{Text}
use Rattle.glob_pattern.specs.Grammar.Tokens.{Token, shape_of}
use Rattle.glob_pattern.specs.Matching.Texts.{AreAllowed, Matches}
use Rattle.glob_pattern.specs.Matching.Splits.{Table, MayReach, TakesAll, Splits}
use Rattle.glob_pattern.specs.Private.TextTable.{table_of}
use Rattle.glob_pattern.specs.Computing.Tokens.{tokens_of}
use Rattle.glob_pattern.specs.declared.options.MatchOptions.{MatchOptions}
use Rattle.glob_pattern.proofs.Places.{drop-at_drop, drop-after_piece, length-after_piece}
use Rattle.glob_pattern.proofs.MatchingLemmas.Splits.{MayReach-le, SplitsFrom-within}
use Rattle.glob_pattern.proofs.MatchingLemmas.Matched.{tokens_of_match}
use Rattle.glob_pattern.proofs.MatchingLemmas.TokensOf.{tokens_of-HasTokens}
use Rattle.glob_pattern.proofs.MatchingLemmas.PiecesAndSplits.{TakesAll-from_piece, TakesPiece-from_all}
use Rattle.glob_pattern.proofs.MatchingLemmas.PiecesAndSplits.{MayReach-from_form, HasForm-from_reach}
use Rattle.glob_pattern.proofs.MatchingLemmas.PiecesAndSplits.{SplitsFrom-from_pieces, Splits-from_TokensMatch}
use Rattle.glob_captures.specs.declared.piece.Piece.{Piece}
use Rattle.glob_captures.specs.Captures.{IsNoMore, places_of, AreCaptures}
use Rattle.glob_captures.specs.Writing.{byte_place}
use Rattle.glob_captures.specs.Private.Rests.{TakesRest}
use Rattle.glob_captures.specs.Private.Ends.{IsShortestEnd, AreShortestEnds, places_between, HasShortestEnds}
use Rattle.glob_captures.proofs.ByteLemmas.{byte_place_later}

-- the pieces of the text from place i on: allowed for the tokens, at these places, and the shortest
record Shortest (o : MatchOptions) (text : Text) (i : ℕ) (tokens : List Token) (ends : List ℕ) (pieces : List Text) : Type 0 where
  whole : drop i text ≡ concat pieces
  allowed : AreAllowed o text i tokens pieces
  places : places_between text i ends ≡ places_of (byte_place text i) pieces
  least : (others : List Text) → drop i text ≡ concat others → AreAllowed o text i tokens others → IsNoMore
      (map length pieces) (map length others)

-- the characters from place i up to place j
abbrev piece_between : Text → ℕ → ℕ → Text
piece_between text i j = take (j - i) (drop i text)

piece-length : (text : Text) (i j : ℕ) → i ≤ j → j ≤ length text → j ≡ i + length (piece_between text i j)
piece-length text i j low high =
    let left : length (drop i text) ≡ length text - i = length-drop i text in
    let l : length (piece_between text i j) ≡ j - i = length-take-le (j - i) (drop i text) (omega arith) in
    omega arith

piece-drop : (text : Text) (i j : ℕ) → i ≤ j → drop i text ≡ piece_between text i j ++ drop j text
piece-drop text i j low =
    let at : i + (j - i) ≡ j = omega arith in
    sym (take-append-drop (j - i) (drop i text)) ∙ ap (λ zs. piece_between text i j ++ zs) (drop-drop (j - i) i text
    ∙ ap (λ k. drop k text) at)

-- the pieces before the last
no_more : (o : MatchOptions) (all : List Token) (text piece : Text) (pieces : List Text) (n i j : ℕ) (t : Token)
    (ts : List Token) → drop n all ≡ t ∷ ts → i ≤ length text → j ≡ i + length piece
    → IsShortestEnd (table_of o all text) n (shape_of t) (map shape_of ts) i j
    → ((others : List Text) → drop j text ≡ concat others → AreAllowed o text j ts others → IsNoMore
    (map length pieces) (map length others))
    → (others : List Text) → drop i text ≡ concat others → AreAllowed o text i (t ∷ ts) others → IsNoMore
    (length piece ∷ map length pieces) (map length others)
no_more o all text piece pieces n i j t ts e within at shortest rest [] p allowed = absurd allowed
no_more o all text piece pieces n i j t ts e within at shortest rest (q ∷ qs) p (took, form, later) =
    let after : drop (i + length q) text ≡ concat qs = drop-after_piece text q (concat qs) i p in
    let low : j ≤ i + length q =
    shortest.least (i + length q)
    (MayReach-from_form o all text q (concat qs) i t ts p form)
    (TakesAll-from_piece o all text q (concat qs) n i t ts e p took)
    (SplitsFrom-from_pieces o all ts text (n + 1) (i + length q) qs (drop-at_drop all ts n t e) after
    (length-after_piece text q (concat qs) i p within) later) in
    ⊎_elim
    (λ same. let here : i + length q ≡ j = omega arith in
    inr (same, rest qs (subst (λ k. drop k text ≡ concat qs) here after) (subst (λ k. AreAllowed o text k ts qs) here later)))
    (λ other. inl (omega arith))
    (cases_eq (length piece) (length q))

-- the shortest ends are the ends of the shortest pieces
pieces_of_ends : (o : MatchOptions) (all : List Token) (text : Text) (ts : List Token) (n i : ℕ) (ends : List ℕ)
    → drop n all ≡ ts → i ≤ length text
    → AreShortestEnds (table_of o all text) n (map shape_of ts) i ends → (pieces : List Text) × Shortest o text i ts ends pieces
unfolding table_of
pieces_of_ends o all text [] n i [] e within at = (
  [],
  record {
    whole = drop_all i text (omega arith);
    allowed =
        tt;
    places = refl;
    least = λ others p allowed. tt;
  },
)
pieces_of_ends o all text [] n i (j ∷ js) e within are = absurd are
pieces_of_ends o all text (t ∷ ts) n i [] e within are = absurd are
pieces_of_ends o all text (t ∷ ts) n i (j ∷ js) e within (shortest, are) =
    let table : Table = table_of o all text in
    let low : i ≤ j = MayReach-le table (shape_of t) (map shape_of ts) i j shortest.reach in
    let high : j ≤ length text = SplitsFrom-within table (n + 1) (map shape_of ts) j shortest.rest in
    let piece : Text = piece_between text i j in
    let at : j ≡ i + length piece = piece-length text i j low high in
    let front : drop i text ≡ piece ++ drop j text = piece-drop text i j low in
    let next : (pieces : List Text) × Shortest o text j ts js pieces = pieces_of_ends o all text ts (n + 1) j js
    (drop-at_drop all ts n t e) high are in
    let pieces : List Text = next.0 in
    let whole : drop i text ≡ piece ++ concat pieces = front ∙ ap (λ zs. piece ++ zs) next.1.whole in
    let end : byte_place text j ≡ byte_place text i + length (encode_utf8_all piece) = byte_place_later text i j low in
    let made : ℕ → Piece = λ b. record { start = byte_place text i; end = b } in (
      piece ∷ pieces,
      record {
        whole = whole;
        allowed = (
          TakesPiece-from_all o all text piece (concat pieces) n i t ts e whole (subst (TakesAll table n i) at shortest.took),
          HasForm-from_reach o all text piece (concat pieces) i t ts whole (subst (MayReach table (shape_of t)
              (map shape_of ts) i) at shortest.reach),
          subst (λ k. AreAllowed o text k ts pieces) at next.1.allowed,
        );
        places = ap₂ (λ x xs. x ∷ xs) (ap made end) (next.1.places ∙ ap (λ b. places_of b pieces) end);
        least = no_more o all text piece pieces n i j t ts e within at shortest next.1.least;
      },
    )

-- the pieces with the shortest ends are the captures
pub AreCaptures-from_ends : (o : MatchOptions) (tokens : List Token) (text : Text) (found : List Piece)
    → HasShortestEnds o tokens text found → AreCaptures o tokens text found
unfolding AreCaptures HasShortestEnds
AreCaptures-from_ends o tokens text found (ends, are, is) =
    let made : (pieces : List Text) × Shortest o text 0 tokens ends pieces = pieces_of_ends o tokens text tokens 0 0
    ends refl (omega arith) are in (
      made.0,
      record {
        split = record { whole = sym made.1.whole; allowed = made.1.allowed };
        shortest = λ others split. made.1.least others (sym split.whole) split.allowed;
      },
      is ∙ made.1.places,
    )

-- the tokens of a pattern that matches take the whole text
pub TakesRest-from_Matches : (o : MatchOptions) (pattern text : Text) → Matches o pattern text → TakesRest o (tokens_of pattern) text 0 0
unfolding TakesRest
TakesRest-from_Matches o pattern text matches =
    let has = tokens_of_match o pattern text matches in
    subst (λ tokens. Splits (table_of o tokens text) (map shape_of tokens))
    (sym (tokens_of-HasTokens pattern has.0 has.1)) (Splits-from_TokensMatch o has.0 text has.2)
