-- The mask of some tokens and of one more, inverted masks, and rows of masks in a list.
use Rattle.std.proofs.Common.{◌≡◌, ℕ, ◌+◌, ◌-◌, ◌^◌, ◌<◌, ◌≤◌, ◌↔◌, ◌⊎◌, Bool, true, false, not, ◌&&◌, ◌||◌}
use Rattle.std.proofs.Common.{if◌then◌else◌, IsTrue, List, ◌++◌, length, get_or, take, drop, set, bit_and, bit_or}
use Rattle.std.proofs.Common.{bit_xor, refl, sym, ap, ◌∙◌, inl, inr, ⊎_elim, arith}
use Rattle.std.proofs.lemmas.Bool.{cases_eq, false≢true, both_ways, and_parts, or_cases, or_left, or_right, not-true, false_from_ne_true}
use Rattle.std.proofs.lemmas.List.{get_or_append_left, get_or-append_right, get_or-take, get_or-drop, length-append}
use Rattle.std.proofs.lemmas.List.{length-drop, length-take-le, length-set, get_or-set_same, get_or-set_other}
use borrow.Rule.Slice.PartMut.{put_mid, post_of}
use Rattle.std.specs.Int.{IsBitSet, bit_not, w64}
use Rattle.glob_pattern.specs.Grammar.Tokens.{Token}
use Rattle.glob_pattern.specs.Matching.Taking.{takes}
use Rattle.glob_pattern.specs.Private.Classes.{Partition, IsPartition, class_in, columns_of}
use Rattle.glob_pattern.specs.Private.CharMasks.{class_of, mask_at, case_options, takes_separator, takes_dot, IsMask, IsRow, IsWith}
use Rattle.glob_pattern.specs.declared.token.Token.TheVariants.{AnyChar}
use Rattle.glob_pattern.proofs.BitLemmas.SetBits.{IsBitSet-zero, IsBitSet-or, IsBitSet-xor, IsBitSet-without}
use Rattle.glob_pattern.proofs.MaskLemmas.Classes.{class-cases, class-below}

-- a test, inverted where another test passes
inverted : (within here other both : Type 0) (p q : Bool) → here ↔ (within × IsTrue p) → other ↔ (within × IsTrue q)
    → both ↔ ((here × ¬ other) ⊎ (¬ here × other)) → both ↔ (within × IsTrue (if q then not p else p))
inverted within here other both true true h o b = (
  λ s. absurd (⊎_elim (λ (x, none). none (o.1 ((h.0 x).0, refl))) (λ (none, x). none (h.1 ((o.0 x).0, refl))) (b.0 s)),
  λ (_, f). absurd (false≢true f),
)
inverted within here other both true false h o b = (
  λ s. ⊎_elim (λ (x, _). h.0 x) (λ (_, x). absurd (false≢true (o.0 x).1)) (b.0 s),
  λ t. b.1 (inl (h.1 t, λ x. false≢true (o.0 x).1)),
)
inverted within here other both false true h o b = (
  λ s. ⊎_elim (λ (x, _). absurd (false≢true (h.0 x).1)) (λ (_, x). o.0 x) (b.0 s),
  λ t. b.1 (inr (λ x. false≢true (h.0 x).1, o.1 t)),
)
inverted within here other both false false h o b = (
  λ s. absurd (⊎_elim (λ (x, _). false≢true (h.0 x).1) (λ (_, x). false≢true (o.0 x).1) (b.0 s)),
  λ (_, f). absurd (false≢true f),
)

module _ (tokens : List Token) (start : ℕ) where
  -- for no tokens, no bit is set
  pub IsMask-zero : (test : Token → Bool) → IsMask tokens start start test 0
  IsMask-zero test = record { bits = λ j lt. (λ s. absurd (IsBitSet-zero j s), λ (below, _). absurd (omega arith)) }

  -- one more token
  pub IsMask-more : (n : ℕ) (test : Token → Bool) (token : Token) (old new : ℕ) → start ≤ n → token ≡ get_or tokens n AnyChar
      → IsMask tokens start n test old → IsWith old new (n - start) (test token) → IsMask tokens start (n + 1) test new
  IsMask-more n test token old new from is mask put = record {
    bits = λ j lt.
        let was = mask.bits j lt in
        let bit = put.bits j in (
          λ s. ⊎_elim
              (λ o. let (below, t) = was.0 o in (omega arith, t))
              (λ (e, t).
              let at : start + j ≡ n = omega arith in
              (omega arith, rw (at, ← is) t))
              (bit.0 s),
          λ (below, t). ⊎_elim
              (λ (e : start + j ≡ n). bit.1 (inr (omega arith, rw (e, ← is) at t)))
              (λ ne. bit.1 (inl (was.1 (omega arith, t))))
              (cases_eq (start + j) n),
        );
  }

  -- the mask of a test with the same answers
  pub IsMask-same : (end : ℕ) (p q : Token → Bool) (mask : ℕ) → ((t : Token) → p t ≡ q t) → IsMask tokens start end p
      mask → IsMask tokens start end q mask
  IsMask-same end p q mask same is = record {
    bits = λ j lt.
        let t = get_or tokens (start + j) AnyChar in
        let was = is.bits j lt in
        (λ s. let (below, h) = was.0 s in (below, sym (same t) ∙ h), λ (below, h). was.1 (below, same t ∙ h));
  }

  -- the mask of the tokens that pass one of two tests
  pub IsMask-or : (end : ℕ) (p q : Token → Bool) (a b : ℕ) → IsMask tokens start end p a → IsMask tokens start end q b
      → IsMask tokens start end (λ t. p t || q t) (bit_or a b)
  IsMask-or end p q a b first second = record {
    bits = λ j lt.
        let t = get_or tokens (start + j) AnyChar in
        let or = IsBitSet-or a b j in (
          λ s. ⊎_elim
              (λ o. let (below, h) = (first.bits j lt).0 o in (below, or_left (p t) (q t) h))
              (λ o. let (below, h) = (second.bits j lt).0 o in (below, or_right (p t) (q t) h))
              (or.0 s),
          λ (below, h). or.1 (⊎_elim (λ o. inl ((first.bits j lt).1 (below, o))) (λ o. inr ((second.bits j lt).1
              (below, o))) (or_cases (p t) (q t) h)),
        );
  }

  -- the mask of the tokens that pass the first test and not the second
  pub IsMask-without : (end : ℕ) (p q : Token → Bool) (a b : ℕ) → b < 2 ^ 64 → IsMask tokens start end p a → IsMask tokens start end q b
      → IsMask tokens start end (λ t. p t && not (q t)) (bit_and a (bit_not w64 b))
  IsMask-without end p q a b fits first second = record {
    bits = λ j lt.
        let without = IsBitSet-without a b j fits lt in (
          λ s.
              let (here, none) = without.0 s in
              let (below, h) = (first.bits j lt).0 here in
              (below, rw (h, false_from_ne_true (q _) (λ e. none ((second.bits j lt).1 (below, e)))) refl),
          λ (below, h).
              let (one, other) = and_parts _ _ h in
              without.1 ((first.bits j lt).1 (below, one), λ s. both_ways _ (not-true _ other) ((second.bits j lt).0 s).1),
        );
  }

  -- the mask of the first test, inverted for the tokens that pass the second
  pub IsMask-inverted : (end : ℕ) (p q : Token → Bool) (a b : ℕ) → IsMask tokens start end p a → IsMask tokens start end q b
      → IsMask tokens start end (λ t. if q t then not (p t) else p t) (bit_xor a b)
  IsMask-inverted end p q a b first second = record {
    bits = λ j lt. inverted _ _ _ _ (p _) (q _) (first.bits j lt) (second.bits j lt) (IsBitSet-xor a b j);
  }

-- the mask of a class has the bits of the tokens that take its characters
at_class : (masks : List ℕ) (j class r : ℕ) (a b : Bool) (within : Type 0) → class ≡ r → b ≡ a → IsBitSet
    (mask_at masks r) j ↔ (within × IsTrue a) → IsBitSet (mask_at masks class) j ↔ (within × IsTrue b)
at_class masks j class r a b within e f h = rw (e, f) h

wider : (bit within below is : Type 0) → within ↔ below → bit ↔ (within × is) → bit ↔ (below × is)
wider bit within below is same h = (λ s. (same.0 (h.0 s).0, (h.0 s).1), λ t. h.1 (same.1 t.0, t.1))

-- if each column is the mask of its class, the row says which tokens take a character
pub IsRow-from : (tokens : List Token) (start end : ℕ) (p : Partition) (case : Bool) (row : List ℕ)
    → IsMask tokens start end takes_separator (mask_at row 0) → IsMask tokens start end takes_dot (mask_at row 1)
    → ((c : ℕ) → IsMask tokens start end (takes (case_options case) false c) (mask_at row (class_in p c)))
    → ((j : ℕ) → j < 63 → (start + j < end) ↔ (start + j < length tokens)) → IsRow tokens start p case row 0
IsRow-from tokens start end p case row separator dots others all = record {
  takes = λ o opening c j same lt.
      let t = get_or tokens (start + j) AnyChar in
      let within = all j lt in
      let bit : j < 64 = omega arith in
      let at : 0 + class_of p o opening c ≡ class_of p o opening c = omega arith in
      ⊎_elim (λ (e, f). at_class _ j _ _ _ _ _ (at ∙ e) f (wider _ _ _ _ within (separator.bits j bit)))
      (⊎_elim (λ (e, f). at_class _ j _ _ _ _ _ (at ∙ e) f (wider _ _ _ _ within (dots.bits j bit)))
      (λ (e, f). at_class _ j _ _ _ _ _ (at ∙ e) f (rw same (wider _ _ _ _ within ((others c).bits j bit)))))
      (class-cases o opening p c t);
}

-- the masks of the classes of the rules beside the others
pub stored_rules : (masks : List ℕ) (separator dot : ℕ) → 1 < length masks
    → (mask_at (set (set masks 0 separator) 1 dot) 0 ≡ separator)
    × (mask_at (set (set masks 0 separator) 1 dot) 1 ≡ dot)
    × ((r : ℕ) → 2 ≤ r → mask_at (set (set masks 0 separator) 1 dot) r ≡ mask_at masks r)
stored_rules masks separator dot long =
    let first = set masks 0 separator in
    let at_first : 0 < length masks = omega arith in
    let at_second : 1 < length first = omega (arith, length-set masks 0 separator) in (
      get_or-set_other first 1 0 dot 0 (λ e. omega arith) ∙ get_or-set_same masks 0 separator 0 at_first,
      get_or-set_same first 1 dot 0 at_second,
      λ r low. get_or-set_other first 1 r dot 0 (λ e. omega arith) ∙ get_or-set_other masks 0 r separator 0 (λ e. omega arith),
    )

-- what is before a part of a list that is written stays
module _ (a k : ℕ) (xs ys : List ℕ) (within : a + k ≤ length xs) (long : length ys ≡ k) where
  pub placed : (r : ℕ) → r < k → mask_at (put_mid a k xs ys) (a + r) ≡ mask_at ys r
  placed r lt =
      let front : length (take a xs) ≡ a = length-take-le a xs (omega arith) in
      let back : a + r - a ≡ r = omega arith in
      get_or-append_right (take a xs) (ys ++ post_of a k xs) a (a + r) 0 front (omega arith)
      ∙ ap (λ i. get_or (ys ++ post_of a k xs) i 0) back ∙ get_or_append_left ys (post_of a k xs) 0 r (omega (arith, lt, long))

  pub before : (r : ℕ) → r < a → mask_at (put_mid a k xs ys) r ≡ mask_at xs r
  before r lt =
      let front : length (take a xs) ≡ a = length-take-le a xs (omega arith) in
      get_or_append_left (take a xs) (ys ++ post_of a k xs) 0 r (omega (arith, lt, front)) ∙ get_or-take a xs r 0 lt

-- a row whose masks are in another list is a row there
pub IsRow-moved : (tokens : List Token) (start : ℕ) (p : Partition) (is : IsPartition p) (case : Bool) (a b : ℕ) (xs ys : List ℕ)
    → ((r : ℕ) → r < columns_of p → mask_at ys (b + r) ≡ mask_at xs (a + r)) → IsRow tokens start p case xs a
    → IsRow tokens start p case ys b
IsRow-moved tokens start p is case a b xs ys same row = record {
  takes = λ o opening c j of lt.
      rw (same (class_of p o opening c) (class-below o opening p is c)) (row.takes o opening c j of lt);
}

-- what is after a part that is written stays
pub past : (a k : ℕ) (xs ys : List ℕ) → a + k ≤ length xs → length ys ≡ k → (r : ℕ) → a + k ≤ r → mask_at
    (put_mid a k xs ys) r ≡ mask_at xs r
past a k xs ys within long r le =
    let front : length (take a xs) ≡ a = length-take-le a xs (omega arith) in
    let rest : k + (r - a - k) ≡ r - a = omega arith in
    let whole : a + (k + (r - a - k)) ≡ r = omega arith in
    get_or-append_right (take a xs) (ys ++ post_of a k xs) a r 0 front (omega arith)
    ∙ get_or-append_right ys (post_of a k xs) k (r - a) 0 long (omega arith)
    ∙ get_or-drop k (drop a xs) (r - a - k) 0 ∙ get_or-drop a xs (k + (r - a - k)) 0 ∙ ap (λ i. get_or xs i 0) whole

-- the list keeps its length
pub length-written : (a k : ℕ) (xs ys : List ℕ) → a + k ≤ length xs → length ys ≡ k → length (put_mid a k xs ys) ≡ length xs
length-written a k xs ys within long =
    let front : length (take a xs) ≡ a = length-take-le a xs (omega arith) in
    omega (
      arith,
      within,
      long,
      front,
      length-append (take a xs) (ys ++ post_of a k xs),
      length-append ys
          (post_of a k xs),
      length-drop k (drop a xs),
      length-drop a xs,
    )
