-- Tokens that stand for themselves: each takes one character, which is the same as its own.
use Rattle.std.proofs.Common.{◌≡◌, ℕ, ◌+◌, ◌<◌, Bool, [], ◌∷◌, length, map, replicate, slice_index, IsTrue, refl, sym}
use Rattle.std.proofs.Common.{ap, ap₂, subst, ◌∙◌, arith, zero-add}
use Rattle.std.proofs.lemmas.List.{get_or-map}
use Rattle.glob_text.specs.Text.{Text, opens}
use Rattle.glob_pattern.specs.Grammar.Brackets.{is_same}
use Rattle.glob_pattern.specs.Grammar.Tokens.{Token, shape_of}
use Rattle.glob_pattern.specs.Matching.Taking.{takes}
use Rattle.glob_pattern.specs.Matching.Texts.{TokensMatch}
use Rattle.glob_pattern.specs.Matching.Splits.{Table, SplitsFrom}
use Rattle.glob_pattern.specs.Private.TextTable.{table_of}
use Rattle.glob_pattern.specs.Laws.{SameTexts}
use Rattle.glob_pattern.specs.declared.options.MatchOptions.{MatchOptions}
use Rattle.glob_pattern.specs.declared.matcher.Shape.TheVariants as shape
use Rattle.glob_pattern.specs.declared.token.Token.TheVariants.{AnyChar}
use Rattle.glob_pattern.proofs.MatchingLemmas.Splits.{SplitsFrom-ones, ones-from_SplitsFrom}
use Rattle.glob_pattern.proofs.MatchingLemmas.PiecesAndSplits.{Splits-from_TokensMatch, TokensMatch-from_Splits}

-- the token takes exactly the characters that are the same as x
abbrev pub IsLiteral : MatchOptions → Token → ℕ → Type 0
IsLiteral o t x = (shape_of t ≡ shape.One) × ((opening : Bool) (c : ℕ) → takes o opening c t ≡ is_same o.case_sensitive c x)

-- the shapes of such tokens
ones : (o : MatchOptions) (token : ℕ → Token) → ((x : ℕ) → IsLiteral o (token x) x) → (xs : Text) → map shape_of
    (map token xs) ≡ replicate (length xs) shape.One
ones o token each [] = refl
ones o token each (x ∷ xs) = ap₂ (λ s ss. s ∷ ss) (each x).0 (ones o token each xs)

-- what the table says of the k-th of such tokens
literal-takes : (o : MatchOptions) (token : ℕ → Token) → ((x : ℕ) → IsLiteral o (token x) x) → (xs text : Text) (k : ℕ)
    → k < length xs → (table_of o (map token xs) text).takes k k ≡ is_same o.case_sensitive (slice_index text k)
    (slice_index xs k)
unfolding table_of
literal-takes o token each xs text k l =
    ap (takes o (opens text k) (slice_index text k)) (get_or-map token xs k 0 AnyChar l) ∙ (each (slice_index xs k)).1
    (opens text k) (slice_index text k)

-- a text that such tokens match is the same as theirs
pub SameTexts-from_TokensMatch : (o : MatchOptions) (token : ℕ → Token) → ((x : ℕ) → IsLiteral o (token x) x) →
    (xs text : Text) → TokensMatch o (map token xs) text → SameTexts o.case_sensitive text xs
unfolding table_of
SameTexts-from_TokensMatch o token each xs text h =
    let table : Table = table_of o (map token xs) text in
    let split : SplitsFrom table 0 (replicate (length xs) shape.One) 0 =
    subst (λ shapes. SplitsFrom table 0 shapes 0) (ones o token each xs) (Splits-from_TokensMatch o (map token xs) text h) in
    let told : (0 + length xs ≡ table.characters) × ((k : ℕ) → k < length xs → IsTrue (table.takes (0 + k) (0 + k))) =
    ones-from_SplitsFrom table (length xs) 0 0 split in (
      omega (arith, told.0),
      λ k l. sym (literal-takes o token each xs text k l) ∙ subst (λ q. IsTrue (table.takes q q))
          (zero-add k) (told.1 k l),
    )

-- such tokens match the texts that are the same as theirs
pub TokensMatch-from_SameTexts : (o : MatchOptions) (token : ℕ → Token) → ((x : ℕ) → IsLiteral o (token x) x) →
    (xs text : Text) → SameTexts o.case_sensitive text xs → TokensMatch o (map token xs) text
unfolding table_of
TokensMatch-from_SameTexts o token each xs text (lengths, same_at) =
    let table : Table = table_of o (map token xs) text in
    TokensMatch-from_Splits o (map token xs) text
    (subst (λ shapes. SplitsFrom table 0 shapes 0) (sym (ones o token each xs))
    (SplitsFrom-ones table (length xs) 0 0 (omega arith)
    (λ k l. subst (λ q. IsTrue (table.takes q q)) (sym (zero-add k)) (literal-takes o token each xs text k l ∙ same_at k l))))
