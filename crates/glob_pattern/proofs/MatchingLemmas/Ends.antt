-- One-character tokens and literals that take the ends of a part of a text.
use Rattle.std.proofs.Common.{◌≡◌, ℕ, suc, ◌+◌, ◌-◌, ◌<◌, ◌≤◌, ◌↔◌, ◌==◌, Bool, true, false, List, [], ◌∷◌, ◌++◌}
use Rattle.std.proofs.Common.{length, map, drop, get_or, IsTrue, chars, refl, sym, ap, subst, subst₂, ◌∙◌, ⊎_elim}
use Rattle.std.proofs.Common.{arith, append_assoc, append-nil}
use Rattle.std.proofs.lemmas.Bool.{false≢true}
use Rattle.std.proofs.lemmas.List.{drop_more, get_or_at, get_or-drop, length-append, length-drop, length-map}
use Rattle.std.specs.Str.{IsUtf8}
use Rattle.glob_text.specs.Characters.{slash}
use Rattle.glob_text.specs.Text.{Text}
use Rattle.glob_pattern.specs.Grammar.Tokens.{Token, shape_of}
use Rattle.glob_pattern.specs.Matching.Taking.{takes}
use Rattle.glob_pattern.specs.Matching.Texts.{TokensMatch}
use Rattle.glob_pattern.specs.Laws.{SameTexts}
use Rattle.glob_pattern.specs.Private.Parts.{SplitsPart, TakesFirst, TakesLast, Leaves}
use Rattle.glob_pattern.specs.Private.TextTable.{opens_within}
use Rattle.glob_pattern.specs.declared.matcher.Shape.TheVariants.{One}
use Rattle.glob_pattern.specs.declared.options.MatchOptions.{MatchOptions}
use Rattle.glob_pattern.specs.declared.token.Token.TheVariants.{AnyChar, Literal}
use Rattle.glob_pattern.proofs.Places.{at_last}
use Rattle.glob_pattern.proofs.MatchingLemmas.Parts.{opens-shift, SplitsPart-first, SplitsPart-first_none}
use Rattle.glob_pattern.proofs.MatchingLemmas.Parts.{SplitsPart-last, SplitsPart-last_none}
use Rattle.glob_pattern.proofs.MatchingLemmas.PlainTokens.{SameTexts-more}

-- there are as many literals as characters
pub length-literals : (plain : Text) (tokens : List Token) → tokens ≡ map Literal plain → length tokens ≡ length plain
length-literals plain tokens e = ap length e ∙ length-map {B = Token} plain Literal

-- an empty list of tokens takes nothing
pub TakesFirst-none : (o : MatchOptions) (opening : Bool) (part : Text) → TakesFirst o [] opening part opening part
TakesFirst-none o opening part = λ more n m e.
    let at : n ≡ m = omega (arith, e) in
    subst (λ q. SplitsPart o opening more q part ↔ SplitsPart o opening more n part) at (λ s. s, λ s. s)

pub TakesLast-none : (o : MatchOptions) (opening : Bool) (part : Text) → TakesLast o [] opening part part
TakesLast-none o opening part = λ front more n m size e.
    let at : n ≡ m = omega (arith, e) in
    subst (λ q. SplitsPart o opening (front ++ more) q part ↔ SplitsPart o opening (front ++ more) n part) at (λ s. s, λ s. s)

-- one more token before some that took the end
TakesLast-more : (o : MatchOptions) (tokens : List Token) (opening : Bool) (part : Text) (t : Token) (rest : Text)
    (c : ℕ) → shape_of t ≡ One → TakesLast o tokens opening part (rest ++ c ∷ [])
    → IsTrue (takes o (opens_within opening rest (length rest)) c t) → TakesLast o (t ∷ tokens) opening part rest
TakesLast-more o tokens opening part t rest c one taken took = λ front more n m size e.
    let at : get_or (front ++ t ∷ (tokens ++ more)) n AnyChar ≡ t = get_or_at front t (tokens ++ more) AnyChar n (sym size) in
    let within : n < length (front ++ t ∷ (tokens ++ more)) = omega (arith, size, length-append front (t ∷ (tokens ++ more))) in
    let before = rw (append_assoc front (t ∷ []) (tokens ++ more)) at (taken (front ++ t ∷ []) more (suc n) m
    (omega (arith, size, length-append front (t ∷ []))) (omega (arith, e))) in
    let step = SplitsPart-last o opening (front ++ t ∷ (tokens ++ more)) n within (ap shape_of at ∙ one) rest c in
    (λ s. (step.0 (before.0 s)).1, λ s. before.1 (step.1 (rw at took, s)))

-- a part is left to the tokens from number k on, and token k takes one character
module _ (o : MatchOptions) (tokens : List Token) (text : List ℕ) (k end : ℕ) (low : k < end)
    (within : end ≤ length tokens) (one : shape_of (get_or tokens k AnyChar) ≡ One)
    (part : List ℕ) (opening : Bool) (left : Leaves o tokens text k end part opening) where
  splits-first : TokensMatch o tokens (chars text) ↔ SplitsPart o opening (get_or tokens k AnyChar ∷ drop
      (k + 1) tokens) (suc (end - (k + 1))) (chars part)
  splits-first =
      let next : end - k ≡ suc (end - (k + 1)) = omega (arith, low) in
      subst₂ (λ ts n. TokensMatch o tokens (chars text) ↔ SplitsPart o opening ts n (chars part))
      (drop_more tokens k AnyChar (omega (arith, low, within))) next left.match

  -- it takes the first character
  pub Leaves-next : (c : ℕ) (rest : List ℕ) → IsUtf8 rest → chars part ≡ c ∷ chars rest → takes o opening c
      (get_or tokens k AnyChar) ≡ true → Leaves o tokens text (k + 1) end rest (c == slash)
  Leaves-next c rest u e took =
      let all = subst (λ cs. TokensMatch o tokens (chars text) ↔ SplitsPart o opening (get_or tokens k AnyChar ∷ drop
      (k + 1) tokens) (suc (end - (k + 1))) cs) e splits-first in
      let step = SplitsPart-first o opening (get_or tokens k AnyChar) (drop (k + 1) tokens) c (chars rest) one (end - (k + 1)) in
      record {
        utf8 = u;
        count = omega (arith, left.count, ap length e);
        match = (λ m. (step.0 (all.0 m)).1, λ splits. all.1 (step.1 (took, splits)));
      }

  -- it does not take the first character
  pub refuses-next : (c : ℕ) (rest : List ℕ) → chars part ≡ c ∷ chars rest → takes o opening c
      (get_or tokens k AnyChar) ≡ false → TokensMatch o tokens (chars text) → ⊥
  refuses-next c rest e none m =
      let splits = subst (SplitsPart o opening (get_or tokens k AnyChar ∷ drop (k + 1) tokens) (suc (end - (k + 1)))) e
      (splits-first.0 m) in
      false≢true (sym none ∙ ((SplitsPart-first o opening (get_or tokens k AnyChar) (drop (k + 1) tokens) c
      (chars rest) one (end - (k + 1))).0 splits).0)

  -- there is no first character
  pub lacks-next : chars part ≡ [] → TokensMatch o tokens (chars text) → ⊥
  lacks-next none m =
      SplitsPart-first_none o opening (get_or tokens k AnyChar) (drop (k + 1) tokens) (end - (k + 1)) one
      (subst (SplitsPart o opening (get_or tokens k AnyChar ∷ drop (k + 1) tokens) (suc (end - (k + 1)))) none (splits-first.0 m))

-- token number k, of one character, is the last
module _ (o : MatchOptions) (tokens : List Token) (text : List ℕ) (from k end : ℕ) (next : end ≡ k + 1)
    (low : from ≤ k) (within : k < length tokens) (one : shape_of (get_or tokens k AnyChar) ≡ One)
    (part : List ℕ) (opening : Bool) (left : Leaves o tokens text from end part opening) where
  token-last : get_or (drop from tokens) (k - from) AnyChar ≡ get_or tokens k AnyChar
  token-last =
      let at : from + (k - from) ≡ k = omega (arith, low) in
      get_or-drop from tokens (k - from) AnyChar ∙ ap (λ n. get_or tokens n AnyChar) at

  inside : k - from < length (drop from tokens)
  inside = omega (arith, low, within, length-drop from tokens)

  splits-last : TokensMatch o tokens (chars text) ↔ SplitsPart o opening (drop from tokens) (suc (k - from)) (chars part)
  splits-last =
      let size : end - from ≡ suc (k - from) = omega (arith, next, low) in
      subst (λ n. TokensMatch o tokens (chars text) ↔ SplitsPart o opening (drop from tokens) n (chars part)) size left.match

  -- it takes the last character
  pub Leaves-before : (rest : List ℕ) (c : ℕ) → IsUtf8 rest → chars part ≡ chars rest ++ c ∷ [] → takes o
      (opens_within opening (chars rest) (length (chars rest))) c (get_or tokens k AnyChar) ≡ true
      → Leaves o tokens text from k rest opening
  Leaves-before rest c u e took =
      let all = subst (λ cs. TokensMatch o tokens (chars text) ↔ SplitsPart o opening (drop from tokens)
      (suc (k - from)) cs) e splits-last in
      let step = SplitsPart-last o opening (drop from tokens) (k - from) inside (ap shape_of token-last ∙ one) (chars rest) c in
      let taken = subst (λ t. takes o (opens_within opening (chars rest) (length (chars rest))) c t ≡ true) (sym token-last) took in
      record {
        utf8 = u;
        count = omega (arith, left.count, next, within, ap length e, length-append (chars rest) (c ∷ []));
        match = (λ m. (step.0 (all.0 m)).1, λ splits. all.1 (step.1 (taken, splits)));
      }

  -- it does not take the last character
  pub refuses-before : (rest : List ℕ) (c : ℕ) → chars part ≡ chars rest ++ c ∷ [] → takes o (opens_within opening
      (chars rest) (length (chars rest))) c (get_or tokens k AnyChar) ≡ false → TokensMatch o tokens (chars text) → ⊥
  refuses-before rest c e none m =
      let splits = subst (SplitsPart o opening (drop from tokens) (suc (k - from))) e (splits-last.0 m) in
      let took = ((SplitsPart-last o opening (drop from tokens) (k - from) inside (ap shape_of token-last ∙ one)
      (chars rest) c).0 splits).0 in
      false≢true (sym none ∙ subst (λ t. takes o (opens_within opening (chars rest) (length (chars rest))) c t ≡ true) token-last took)

  -- there is no last character
  pub lacks-before : chars part ≡ [] → TokensMatch o tokens (chars text) → ⊥
  lacks-before none m =
      SplitsPart-last_none o opening (drop from tokens) (k - from) inside (ap shape_of token-last ∙ one)
      (subst (SplitsPart o opening (drop from tokens) (suc (k - from))) none (splits-last.0 m))

-- literals take a start that is the same
pub TakesFirst-literals : (o : MatchOptions) (plain here : Text) (opening : Bool) (rest : Text) → SameTexts o.case_sensitive here plain
    → TakesFirst o (map Literal plain) opening (here ++ rest) (opens_within opening here (length here)) rest
TakesFirst-literals o [] [] opening rest same = TakesFirst-none o opening rest
TakesFirst-literals o [] (d ∷ ds) opening rest same = absurd (omega (arith, same.0))
TakesFirst-literals o (p ∷ ps) [] opening rest same = absurd (omega (arith, same.0))
TakesFirst-literals o (p ∷ ps) (d ∷ ds) opening rest (lengths, each) = λ more n m e.
    let q : ℕ = length ps + n in
    let long : m ≡ suc (length ps) + n = e ∙ ap (λ k. k + n) (length-literals (p ∷ ps) (map Literal (p ∷ ps)) refl) in
    let many : m ≡ suc q = omega arith in
    let step = SplitsPart-first o opening (Literal p) (map Literal ps ++ more) d (ds ++ rest) refl q in
    let next = TakesFirst-literals o ps ds (d == slash) rest (
      omega (arith, lengths),
      λ k l. each (suc k)
          (omega arith),
    ) more n q (ap (λ k. k + n) (sym (length-literals ps (map Literal ps) refl))) in
    rw (many, opens-shift opening d ds (length ds)) (λ s. next.0 (step.0 s).1, λ s. step.1 (each 0 (omega arith), next.1 s))

-- literals take only a start that is the same
pub first-from_SplitsPart : (o : MatchOptions) (plain : Text) (opening : Bool) (more : List Token) (n m : ℕ)
    (text : Text) → m ≡ length plain + n → SplitsPart o opening (map Literal plain ++ more) m text
    → (here : Text) × (rest : Text) × (text ≡ here ++ rest) × SameTexts o.case_sensitive here plain
first-from_SplitsPart o [] opening more n m text e splits = ([], text, refl, (refl, λ k l. absurd (omega arith)))
first-from_SplitsPart o (p ∷ ps) opening more n m [] e splits =
    let many : m ≡ suc (length ps + n) = omega (arith, e) in
    absurd (SplitsPart-first_none o opening (Literal p) (map Literal ps ++ more) (length ps + n) refl
    (subst (λ k. SplitsPart o opening (Literal p ∷ (map Literal ps ++ more)) k []) many splits))
first-from_SplitsPart o (p ∷ ps) opening more n m (d ∷ ds) e splits =
    let many : m ≡ suc (length ps + n) = omega (arith, e) in
    let (took, others) = (SplitsPart-first o opening (Literal p) (map Literal ps ++ more) d ds refl (length ps + n)).0
    (subst (λ k. SplitsPart o opening (Literal p ∷ (map Literal ps ++ more)) k (d ∷ ds)) many splits) in
    let (here, rest, is, same) = first-from_SplitsPart o ps (d == slash) more n (length ps + n) ds refl others in
    (d ∷ here, rest, ap (λ xs. d ∷ xs) is, SameTexts-more o.case_sensitive d p here ps took same)

-- literals take an end that is the same
pub TakesLast-literals : (o : MatchOptions) (plain here : Text) (opening : Bool) (rest : Text)
    → SameTexts o.case_sensitive here plain → TakesLast o (map Literal plain) opening (rest ++ here) rest
TakesLast-literals o [] [] opening rest same = subst (λ part. TakesLast o [] opening part rest) (sym (append-nil rest))
    (TakesLast-none o opening rest)
TakesLast-literals o [] (d ∷ ds) opening rest same = absurd (omega (arith, same.0))
TakesLast-literals o (p ∷ ps) [] opening rest same = absurd (omega (arith, same.0))
TakesLast-literals o (p ∷ ps) (d ∷ ds) opening rest (lengths, each) =
    let next = TakesLast-literals o ps ds opening (rest ++ d ∷ []) (omega (arith, lengths), λ k l. each (suc k) (omega arith)) in
    TakesLast-more o (map Literal ps) opening (rest ++ d ∷ ds) (Literal p) rest d refl
    (subst (λ part. TakesLast o (map Literal ps) opening part (rest ++ d ∷ [])) (append_assoc rest (d ∷ []) ds) next) (each 0 (omega arith))

-- literals take only an end that is the same
pub last-from_SplitsPart : (o : MatchOptions) (plain : Text) (opening : Bool) (front more : List Token) (n m : ℕ)
    (text : Text) → n ≡ length front → m ≡ n + length plain
    → SplitsPart o opening (front ++ (map Literal plain ++ more)) m text → (rest : Text) × (here : Text) ×
    (text ≡ rest ++ here) × SameTexts o.case_sensitive here plain
last-from_SplitsPart o [] opening front more n m text size e splits = (text, [], sym (append-nil text), (refl, λ k l. absurd (omega arith)))
last-from_SplitsPart o (p ∷ ps) opening front more n m text size e splits =
    let all : List Token = front ++ Literal p ∷ (map Literal ps ++ more) in
    let lead : List Token = front ++ Literal p ∷ [] in
    let assoc : lead ++ (map Literal ps ++ more) ≡ all = append_assoc front (Literal p ∷ []) (map Literal ps ++ more) in
    let long : suc n ≡ length lead = omega (arith, size, length-append front (Literal p ∷ [])) in
    let split = subst (λ ts. SplitsPart o opening ts m text) (sym assoc) splits in
    let (rest, here, is, same) = last-from_SplitsPart o ps opening lead more (suc n) m text long (omega (arith, e)) split in
    let taken = TakesLast-literals o ps here opening rest same lead more (suc n) m long
    (omega (arith, e, length-literals ps (map Literal ps) refl)) in
    let left = subst (λ ts. SplitsPart o opening ts (suc n) rest) assoc
    (taken.0 (subst (SplitsPart o opening (lead ++ (map Literal ps ++ more)) m) is split)) in
    let within : n < length all = omega (arith, size, length-append front (Literal p ∷ (map Literal ps ++ more))) in
    let at : get_or all n AnyChar ≡ Literal p = get_or_at front (Literal p) (map Literal ps ++ more) AnyChar n (sym size) in
    ⊎_elim
    (λ none. absurd (SplitsPart-last_none o opening all n within (ap shape_of at) (subst (SplitsPart o opening all (suc n)) none left)))
    (λ (ys, c, ends).
    let (took, before) = (SplitsPart-last o opening all n within (ap shape_of at) ys c).0
    (subst (SplitsPart o opening all (suc n)) ends left) in (
      ys,
      c ∷ here,
      is ∙ ap (λ xs. xs ++ here) ends ∙ append_assoc ys (c ∷ []) here,
      SameTexts-more o.case_sensitive c p
          here ps (subst (λ t. IsTrue (takes o (opens_within opening ys (length ys)) c t)) at took) same,
    ))
    (at_last rest)
