-- Counting alternatives, lexeme by lexeme.
use Rattle.std.proofs.Common.{◌≡◌, ℕ, ◌+◌, ◌*◌, ◌<◌, ◌≤◌, min, Bool, true, false, List, [], ◌∷◌, ◌++◌, length, get_or}
use Rattle.std.proofs.Common.{map, take, drop, reverse, Some, None, inl, inr, refl, sym, ap, subst, ◌∙◌, arith}
use Rattle.std.proofs.Common.{append_assoc, length-append, mul-le-mul}
use Rattle.std.proofs.lemmas.Bool.{cases_lt}
use Rattle.std.proofs.lemmas.List.{append-nil, length-map, length-take-le, reverse-append, take_more, take_all, drop_more, take-append-drop}
use Rattle.std.specs.Prelude.{encode_utf8, slice_get}
use Rattle.glob_text.specs.Text.{Text}
use Rattle.glob_set.specs.declared.braces.counting.Opened.{Opened}
use Rattle.glob_set.specs.declared.braces.lexemes.Lexeme.{Lexeme}
use Rattle.glob_set.specs.declared.braces.lexemes.Lexeme.TheVariants.{Literal, Open, Comma, Close}
use Rattle.glob_set.specs.declared.braces.error.BraceError.TheVariants.{TooMany}
use Rattle.glob_set.specs.declared.braces.error.BraceRefusal.{BraceRefusal}
use Rattle.glob_set.specs.declared.braces.error.BraceRefusal.TheVariants.{Syntax}
use Rattle.glob_set.specs.Braces.{comma, each_with, joined, HasAlternatives, HasEnded, IsOpenEnded, IsUnmatched, IsUnclosed, RefusesLexemes}
use Rattle.glob_set.specs.Private.BraceCounts.{largest, IsCount, IsCountOf, CountsAlternatives, CountsSoFar}

-- a count of as many texts
as_many : (n : ℕ) (ts us : List Text) → length ts ≡ length us → IsCountOf n ts → IsCountOf n us
as_many n ts us same is = subst (λ k. (n ≡ min k largest) × (1 ≤ k)) same is

length-each_with : (ts : List Text) (end : Text) → length ts ≡ length (each_with ts end)
length-each_with ts end = sym (length-map ts (λ text. text ++ end))

length-joined : (ts us : List Text) → length (joined ts us) ≡ length ts * length us
length-joined [] us = omega arith
length-joined (t ∷ ts) us =
    let parts : length (joined (t ∷ ts) us) ≡ length us + length (joined ts us) =
    length-append (map (λ u. t ++ u) us) (joined ts us) ∙ ap (λ n. n + length (joined ts us)) (length-map us (λ u. t ++ u)) in
    let rest = length-joined ts us in
    grind (arith, parts, rest)

count_sum : (a b x y : ℕ) → IsCount a x → IsCount b y → IsCount (min (a + b) largest) (x + y)
count_sum a b x y is js = omega (arith, is, js)

-- a product with a factor that is too large
large_product : (x y b : ℕ) → largest ≤ x → 1 ≤ y → 1 ≤ b → min (largest * b) largest ≡ min (x * y) largest
large_product x y b large some positive =
    let left : largest * 1 ≤ largest * b = mul-le-mul {n₁ = largest} {m₁ = 1} {n₂ = largest} {m₂ = b} (omega arith) positive in
    let right : largest * 1 ≤ x * y = mul-le-mul {n₁ = largest} {m₁ = 1} {n₂ = x} {m₂ = y} large some in
    omega (arith, left, right)

count_product : (a b x y : ℕ) → IsCount a x → IsCount b y → 1 ≤ x → 1 ≤ y → IsCount (min (a * b) largest) (x * y)
count_product a b x y is js one_x one_y =
    elim (cases_lt x largest) [
      | inl lt ↦ elim (cases_lt y largest) [
        | inl lu ↦
            let a_is : a ≡ x = omega (arith, is, lt) in
            let b_is : b ≡ y = omega (arith, js, lu) in
            rw (a_is, b_is) refl
        | inr ge ↦
            let b_is : b ≡ largest = omega (arith, js, ge) in
            let a_some : 1 ≤ a = omega (arith, is, one_x) in
            let swapped : min (largest * a) largest ≡ min (y * x) largest = large_product y x a ge one_x a_some in
            rw b_is (grind (arith, swapped))
      ]
      | inr ge ↦
          let a_is : a ≡ largest = omega (arith, is, ge) in
          let b_some : 1 ≤ b = omega (arith, js, one_y) in
          rw a_is (large_product x y b ge one_y b_some)
    ]

-- lexemes that make more of each alternative
more : (m : List Lexeme) (c d : ℕ)
    → ((outside : Bool) (l : List Lexeme) (ts : List Text) → HasAlternatives outside l ts → IsCountOf c ts
    → (us : List Text) × HasAlternatives outside (l ++ m) us × IsCountOf d us)
    → (l : List Lexeme) (os : List Opened) → CountsSoFar l c os → CountsSoFar (l ++ m) d os
more m c d step l [] so = step true l so.0 so.1 so.2
more m c d step l (o ∷ os) so =
    let group = so.5 in
    let next = step false group.last group.last_texts group.has_last group.count_is in (
      so.0,
      so.1 ++ m,
      ap (λ z. z ++ m) so.2 ∙ append_assoc so.0 (Open ∷ so.1) m,
      so.3,
      so.4,
      record {
        ended = group.ended;
        last = group.last ++ m;
        ended_texts = group.ended_texts;
        last_texts = next.0;
        is = ap (λ z. z ++ m) group.is ∙ append_assoc group.ended group.last m;
        has_ended = group.has_ended;
        has_last = next.1;
        found_is = group.found_is;
        count_is = next.2;
      },
    )

pub more_literal : (c : ℕ) (l : List Lexeme) (n : ℕ) (os : List Opened) → CountsSoFar l n os → CountsSoFar (l ++ Literal c ∷ []) n os
more_literal c l n os so =
    more (Literal c ∷ []) n n (λ outside k ts h is. (
      each_with ts (encode_utf8 c),
      HasAlternatives.literal outside k ts c h,
      as_many n ts (each_with ts (encode_utf8 c)) (length-each_with ts (encode_utf8 c)) is,
    )) l os so

pub more_open : (l : List Lexeme) (n : ℕ) (os : List Opened) (place : ℕ) → length l ≡ place → CountsSoFar l n os
    → CountsSoFar (l ++ Open ∷ []) 1 (record { place = place; before = n; found = 0 } ∷ os)
more_open l n os place at so = (
  l,
  [],
  refl,
  at,
  so,
  record {
    ended = [];
    last = [];
    ended_texts = [];
    last_texts = [] ∷ [];
    is = refl;
    has_ended = HasEnded.no_branch;
    has_last = HasAlternatives.at_start false;
    found_is = omega arith;
    count_is = (omega arith, omega arith);
  },
)

pub more_comma_outside : (l : List Lexeme) (n : ℕ) → CountsSoFar l n [] → CountsSoFar (l ++ Comma ∷ []) n []
more_comma_outside l n so = (
  each_with so.0 (encode_utf8 comma),
  HasAlternatives.comma_outside l so.0 so.1,
  as_many n so.0 (each_with so.0 (encode_utf8 comma)) (length-each_with so.0 (encode_utf8 comma)) so.2,
)

pub more_comma : (l : List Lexeme) (n : ℕ) (o : Opened) (os : List Opened) (p : Opened) → CountsSoFar l n (o ∷ os)
    → p.place ≡ o.place → p.before ≡ o.before → p.found ≡ min (o.found + n) largest
    → CountsSoFar (l ++ Comma ∷ []) 1 (p ∷ os)
more_comma l n o os p so place before found =
    let group = so.5 in (
      so.0,
      so.1 ++ Comma ∷ [],
      ap (λ z. z ++ Comma ∷ []) so.2 ∙ append_assoc so.0 (Open ∷ so.1) (Comma ∷ []),
      so.3 ∙ sym place,
      subst (λ k. CountsSoFar so.0 k os) (sym before) so.4,
      record {
        ended = group.ended ++ group.last ++ Comma ∷ [];
        last = [];
        ended_texts = group.ended_texts ++ group.last_texts;
        last_texts = [] ∷ [];
        is = ap (λ z. z ++ Comma ∷ []) group.is ∙ sym (append-nil (group.ended ++ group.last ++ Comma ∷ []));
        has_ended = HasEnded.one_more group.ended group.last group.ended_texts group.last_texts group.has_ended group.has_last;
        has_last = HasAlternatives.at_start false;
        found_is = found
            ∙ count_sum o.found n (length group.ended_texts) (length group.last_texts) group.found_is group.count_is.0
            ∙ ap (λ k. min k largest) (sym (length-append group.ended_texts group.last_texts));
        count_is = (omega arith, omega arith);
      },
    )

-- the count of a group with what is before it
count_group : (before found n : ℕ) (ts bs xs : List Text) → IsCountOf before ts → IsCount found (length bs) → IsCountOf n xs
    → IsCountOf (min (before * min (found + n) largest) largest) (joined ts (bs ++ xs))
count_group before found n ts bs xs is js ks =
    let size : length (joined ts (bs ++ xs)) ≡ length ts * (length bs + length xs) =
    length-joined ts (bs ++ xs) ∙ ap (λ k. length ts * k) (length-append bs xs) in
    let sum = count_sum found n (length bs) (length xs) js ks.0 in
    let some : 1 ≤ length bs + length xs = omega (arith, ks.1) in
    let product = count_product before (min (found + n) largest) (length ts) (length bs + length xs) is.0 sum is.1 some in
    let least : 1 * 1 ≤ length ts * (length bs + length xs) =
    mul-le-mul {n₁ = 1} {m₁ = 1} {n₂ = length ts} {m₂ = length bs + length xs} is.1 some in
    let positive : 1 ≤ length ts * (length bs + length xs) = omega (arith, least) in
    subst (λ k. (min (before * min (found + n) largest) largest ≡ min k largest) × (1 ≤ k)) (sym size)
    (product, positive)

pub more_close : (l : List Lexeme) (n : ℕ) (o : Opened) (os : List Opened) → CountsSoFar l n (o ∷ os)
    → CountsSoFar (l ++ Close ∷ []) (min (o.before * min (o.found + n) largest) largest) os
more_close l n o os so =
    let group = so.5 in
    let end = group.ended ++ group.last ++ Close ∷ [] in
    let grown = more (Open ∷ end) o.before (min (o.before * min (o.found + n) largest) largest)
    (λ outside k ts h is. (
      joined ts (group.ended_texts ++ group.last_texts),
      HasAlternatives.braces outside k group.ended group.last ts group.ended_texts group.last_texts h group.has_ended group.has_last,
      count_group o.before o.found n ts group.ended_texts group.last_texts is group.found_is group.count_is,
    )) so.0 os so.4 in
    let same : l ++ Close ∷ [] ≡ so.0 ++ Open ∷ end =
    ap (λ z. z ++ Close ∷ []) so.2 ∙ append_assoc so.0 (Open ∷ so.1) (Close ∷ []) ∙ ap (λ z. so.0 ++ Open ∷ (z ++ Close ∷ [])) group.is in
    subst (λ z. CountsSoFar z (min (o.before * min (o.found + n) largest) largest) os) (sym same) grown

-- a `}` after balanced lexemes
pub IsUnmatched-at : (l r : List Lexeme) (n place : ℕ) → length l ≡ place → CountsSoFar l n [] → IsUnmatched (l ++ Close ∷ r) place
unfolding IsUnmatched
IsUnmatched-at l r n place at so = (l, r, so.0, refl, at, so.1)

-- the first of the `{` that are not closed
pub IsUnclosed-first : (os : List Opened) (first : Opened) (l : List Lexeme) (n : ℕ) → CountsSoFar l n
    (os ++ first ∷ []) → IsUnclosed l first.place
unfolding IsUnclosed
IsUnclosed-first [] first l n so =
    let group = so.5 in (
      so.0,
      so.1,
      so.4.0,
      so.2,
      so.3,
      so.4.1,
      subst IsOpenEnded (sym group.is)
          (IsOpenEnded.at_end group.ended group.last group.ended_texts group.last_texts group.has_ended group.has_last),
    )
IsUnclosed-first (o ∷ os) first l n so =
    let group = so.5 in
    let below = IsUnclosed-first os first so.0 o.before so.4 in (
      below.0,
      below.1 ++ Open ∷ so.1,
      below.2,
      so.2 ∙ ap (λ z. z ++ Open ∷ so.1) below.3 ∙ append_assoc below.0 (Open ∷ below.1) (Open ∷ so.1),
      below.4,
      below.5,
      subst (λ z. IsOpenEnded (below.1 ++ Open ∷ z)) (sym group.is)
          (IsOpenEnded.deeper below.1 group.ended group.last group.ended_texts group.last_texts below.6 group.has_ended group.has_last),
    )

-- no lexeme is read
pub counts_start : CountsSoFar [] 1 []
counts_start = ([] ∷ [], HasAlternatives.at_start true, (omega arith, omega arith))

-- the last of a list is the first of its reverse
pub reverse_push : {X : Type 0} (xs ys : List X) (x : X) → ys ≡ xs ++ x ∷ [] → reverse ys ≡ x ∷ reverse xs
reverse_push xs ys x is = ap reverse is ∙ reverse-append xs (x ∷ [])

-- one more lexeme is counted
pub counted_more : (xs : List Lexeme) (i : ℕ) (d : Lexeme) (n m : ℕ) (os ps : List Opened) → i < length xs → CountsSoFar (take i xs) n os
    → ((before : List Lexeme) → length before ≡ i → CountsSoFar before n os → CountsSoFar (before ++ get_or xs i d ∷ []) m ps)
    → CountsSoFar (take (i + 1) xs) m ps
counted_more xs i d n m os ps below so step =
    subst (λ z. CountsSoFar z m ps) (sym (take_more xs i d below)) (step (take i xs) (length-take-le i xs (omega (arith, below))) so)

-- one more lexeme is refused
pub refused_at : (xs : List Lexeme) (i : ℕ) (d : Lexeme) (n : ℕ) (os : List Opened) (refusal : BraceRefusal) → i < length xs
    → CountsSoFar (take i xs) n os
    → ((before rest : List Lexeme) → length before ≡ i → CountsSoFar before n os → RefusesLexemes (before ++ get_or xs i d ∷ rest) refusal)
    → RefusesLexemes xs refusal
refused_at xs i d n os refusal below so given =
    let split : xs ≡ take i xs ++ get_or xs i d ∷ drop (i + 1) xs =
    sym (take-append-drop i xs) ∙ ap (λ z. take i xs ++ z) (drop_more xs i d below) in
    subst (λ z. RefusesLexemes z refusal) (sym split)
    (given (take i xs) (drop (i + 1) xs) (length-take-le i xs (omega (arith, below))) so)

-- the first unclosed `{`, once all lexemes are read
pub unclosed_first : (xs : List Lexeme) (i n : ℕ) (items : List Opened) (first : Opened) → length xs ≤ i
    → CountsSoFar (take i xs) n (reverse items) → Some first ≡ slice_get items 0 → IsUnclosed xs first.place
unclosed_first xs i n [] first end so is = absurd (cc)
unclosed_first xs i n (o ∷ os) first end so is =
    let same : first ≡ o = cc in
    let all : CountsSoFar xs n (reverse (o ∷ os)) = subst (λ z. CountsSoFar z n (reverse (o ∷ os))) (take_all i xs end) so in
    let last : CountsSoFar xs n (reverse os ++ o ∷ []) = subst (CountsSoFar xs n) (reverse-append (o ∷ []) os) all in
    subst (λ z. IsUnclosed xs z.place) (sym same) (IsUnclosed-first (reverse os) o xs n last)

-- no `{` is unclosed, once all lexemes are read
pub counted_all : (xs : List Lexeme) (i n : ℕ) (items : List Opened) → length xs ≤ i
    → CountsSoFar (take i xs) n (reverse items) → None ≡ slice_get items 0 → CountsAlternatives xs n
counted_all xs i n [] end so is = subst (λ z. CountsSoFar z n []) (take_all i xs end) so
counted_all xs i n (o ∷ os) end so is = absurd (cc)

-- more than a thousand
pub too_many : (ls : List Lexeme) (n : ℕ) → CountsAlternatives ls n → 1000 < n → RefusesLexemes ls (Syntax TooMany)
too_many ls n counted gt = (counted.0, counted.1, omega (arith, counted.2.0, gt))
