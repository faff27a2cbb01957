-- The components of a pattern have no separators, and joined they make up the pattern.
use Rattle.std.proofs.Common.{◌≡◌, ℕ, suc, ◌-◌, ◌<◌, ◌≤◌, ⊎_elim, Bool, true, false, cond, not, ◌&&◌, ◌==◌, List, []}
use Rattle.std.proofs.Common.{◌∷◌, ◌++◌, length, take, slice_index, refl, sym, ap, subst, ◌∙◌, arith, lit<}
use Rattle.std.specs.List.{list_all, join_with_byte, onto_first}
use Rattle.std.specs.Path.{has_no_slash}
use Rattle.std.specs.Str.{IsUtf8}
use lib.Utf8.{encode, encodes, scalars}
use Rattle.std.proofs.lemmas.Str.{encode_ascii, IsUtf8-nil, IsUtf8-append, IsUtf8-take, IsUtf8-drop}
use Rattle.std.proofs.lemmas.Str.{IsCharBoundary-before_ascii, IsCharBoundary-after_ascii}
use Rattle.std.proofs.lemmas.Bool.{and_parts, and_from, not-true, not_from_false, eqb-true, cases_lt, cond-false}
use Rattle.std.proofs.lemmas.List.{append-nil}
use Rattle.std.proofs.lemmas.List.Splits.{join_with_byte-slice_split, length-slice_split}
use Rattle.glob_text.specs.Characters.{slash}
use Rattle.glob_text.specs.Text.{Text}
use Rattle.glob_text.specs.Pieces.{ends_with, pieces}
use Rattle.glob_walk.specs.Components.{without_root, without_end_separator, components}
use Rattle.glob_walk.proofs.GoalLemmas.Characters.{AllUtf8, no_slash-encode}

-- the pieces of a text have no separators
onto_first-flat : (x : ℕ) (ps : List Text) → (x == slash) ≡ false → list_all has_no_slash ps ≡ true
    → list_all has_no_slash (onto_first x ps) ≡ true
onto_first-flat x [] e h = and_from _ true (and_from (not (x == slash)) true (not_from_false (x == slash) e) refl) refl
onto_first-flat x (p ∷ ps) e h =
    let both = and_parts (has_no_slash p) (list_all has_no_slash ps) h in
    and_from (has_no_slash (x ∷ p)) (list_all has_no_slash ps) (and_from (not (x == slash)) (has_no_slash p)
    (not_from_false (x == slash) e) both.0) both.1

pub pieces-flat : (text : Text) → list_all has_no_slash (pieces text) ≡ true
pieces-flat [] = refl
pieces-flat (x ∷ xs) = by_test (x == slash) refl (pieces-flat xs)
  where
    by_test : (b : Bool) → (x == slash) ≡ b → list_all has_no_slash (pieces xs) ≡ true → list_all has_no_slash
        (cond b ([] ∷ pieces xs) (onto_first x (pieces xs))) ≡ true
    by_test true e h = h
    by_test false e h = onto_first-flat x (pieces xs) e h

-- the pieces, with a text in front of the first
first_longer : Text → List Text → List Text
first_longer xs [] = xs ∷ []
first_longer xs (p ∷ ps) = (xs ++ p) ∷ ps

pieces-longer : (xs ys : Text) → has_no_slash xs ≡ true → pieces (xs ++ ys) ≡ first_longer xs (pieces ys)
unfolding first_longer
pieces-longer [] ys h = nothing (pieces ys) (omega (arith, length-slice_split (λ c. c == slash) ys))
  where
    nothing : (ps : List Text) → 0 < length ps → ps ≡ first_longer [] ps
    nothing [] l = absurd (omega arith)
    nothing (p ∷ ps) l = refl
pieces-longer (x ∷ xs) ys h =
    let both = and_parts (not (x == slash)) (has_no_slash xs) h in
    cond-false (x == slash) _ _ (not-true (x == slash) both.0) ∙ ap (onto_first x) (pieces-longer xs ys both.1) ∙ one (pieces ys)
  where
    one : (ps : List Text) → onto_first x (first_longer xs ps) ≡ first_longer (x ∷ xs) ps
    one [] = refl
    one (p ∷ ps) = refl

first_longer-utf8 : (xs : Text) (ps : List Text) → IsUtf8 xs → AllUtf8 ps → AllUtf8 (first_longer xs ps)
unfolding first_longer
first_longer-utf8 xs [] a b = (a, tt)
first_longer-utf8 xs (p ∷ ps) a b = (IsUtf8-append xs p a b.0, b.1)

pieces-encodes : (cs : Text) → scalars cs ≡ true → AllUtf8 (pieces (encodes cs))
pieces-encodes [] h = (IsUtf8-nil, tt)
pieces-encodes (c ∷ cs) h =
    let both = and_parts (scalars (c ∷ [])) (scalars cs) (split h) in
    by_test (c == slash) refl (c ∷ [], (both.0, append-nil (encode c))) (pieces-encodes cs both.1)
  where
    split : scalars (c ∷ cs) ≡ true → (scalars (c ∷ []) && scalars cs) ≡ true
    split e = let both = and_parts _ (scalars cs) e in and_from (scalars (c ∷ [])) (scalars cs) (and_from _ true both.0 refl) both.1

    by_test : (b : Bool) → (c == slash) ≡ b → IsUtf8 (encode c) → AllUtf8 (pieces (encodes cs)) → AllUtf8 (pieces (encode c ++ encodes cs))
    by_test true e one all =
        subst (λ bs. AllUtf8 (pieces (bs ++ encodes cs))) (sym (ap encode (eqb-true c slash e) ∙ encode_ascii slash
        (lit< tt))) (IsUtf8-nil, all)
    by_test false e one all =
        subst AllUtf8 (sym (pieces-longer (encode c) (encodes cs) (no_slash-encode c ∙ not_from_false (c == slash) e)))
        (first_longer-utf8 (encode c) (pieces (encodes cs)) one all)

pub pieces-utf8 : (text : Text) → IsUtf8 text → AllUtf8 (pieces text)
pieces-utf8 text (cs, (scalar, e)) = subst (λ bs. AllUtf8 (pieces bs)) e (pieces-encodes cs scalar)

-- the parts of a pattern are UTF-8
utf8-without_root : (pattern : Text) → IsUtf8 pattern → IsUtf8 (without_root pattern)
utf8-without_root [] utf8 = utf8
utf8-without_root (x ∷ xs) utf8 = by_test (x == slash) refl
  where
    by_test : (b : Bool) → (x == slash) ≡ b → IsUtf8 (cond b xs (x ∷ xs))
    by_test true e = IsUtf8-drop (x ∷ xs) 1 utf8 (IsCharBoundary-after_ascii (x ∷ xs) 0 utf8 (omega arith)
        (omega (arith, eqb-true x slash e)))
    by_test false e = utf8

utf8-without_end : (text : Text) → IsUtf8 text → IsUtf8 (without_end_separator text)
utf8-without_end text utf8 = by_test (ends_with slash text) refl
  where
    by_test : (b : Bool) → ends_with slash text ≡ b → IsUtf8 (cond b (take (length text - 1) text) text)
    by_test true e = ⊎_elim
        (λ some. IsUtf8-take text (length text - 1) utf8 (IsCharBoundary-before_ascii text (length text - 1)
        (omega arith) (omega (arith, eqb-true _ _ e))))
        (λ none. subst IsUtf8 (sym (nothing text none)) IsUtf8-nil)
        (cases_lt 0 (length text))
      where
        nothing : (xs : Text) → length xs ≤ 0 → take (length xs - 1) xs ≡ []
        nothing [] l = refl
        nothing (x ∷ xs) l = absurd (omega arith)
    by_test false e = utf8

pub components-utf8 : (pattern : Text) → IsUtf8 pattern → AllUtf8 (components pattern)
components-utf8 pattern utf8 = pieces-utf8 (without_end_separator (without_root pattern)) (utf8-without_end
    (without_root pattern) (utf8-without_root pattern utf8))

pub components-flat : (pattern : Text) → list_all has_no_slash (components pattern) ≡ true
components-flat pattern = pieces-flat (without_end_separator (without_root pattern))

pub components-joined : (pattern : Text) → join_with_byte slash (components pattern) ≡ without_end_separator (without_root pattern)
components-joined pattern = join_with_byte-slice_split slash (without_end_separator (without_root pattern))

-- a pattern without its last separator keeps the one at its start
pub without_end-rooted : (x : ℕ) (xs : Text) → without_end_separator (slash ∷ x ∷ xs) ≡ slash ∷ without_end_separator (x ∷ xs)
without_end-rooted x xs =
    let back : length (slash ∷ x ∷ xs) - 1 ≡ suc (length xs) = omega arith in
    let end : length (x ∷ xs) - 1 ≡ length xs = omega arith in
    ap (λ k. cond (slice_index (slash ∷ x ∷ xs) k == slash) (take k (slash ∷ x ∷ xs)) (slash ∷ x ∷ xs)) back
    ∙ by_test (slice_index (x ∷ xs) (length xs) == slash)
    ∙ ap (λ k. slash ∷ cond (slice_index (x ∷ xs) k == slash) (take k (x ∷ xs)) (x ∷ xs)) (sym end)
  where
    by_test : (b : Bool) → cond b (slash ∷ take (length xs) (x ∷ xs)) (slash ∷ x ∷ xs) ≡ slash ∷ cond b (take (length xs) (x ∷ xs)) (x ∷ xs)
    by_test true = refl
    by_test false = refl
