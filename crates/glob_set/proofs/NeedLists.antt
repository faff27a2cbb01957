-- Collecting what patterns need of a text.
use Rattle.std.proofs.Common.{◌≡◌, ◌≢◌, ℕ, ◌+◌, ◌<◌, List, [], ◌∷◌, ◌++◌, length, get_or, Option, Some, None, IfSome}
use Rattle.std.proofs.Common.{IsSomeAnd, MatchOption, chars, sym, ap, subst, ◌∙◌, arith, below_more, length-append}
use Rattle.std.proofs.Common.{bit_or}
use Rattle.std.proofs.lemmas.List.{get_or_default, get_or_push, get_or_append_left}
use Rattle.std.specs.Str.{IsUtf8}
use Rattle.glob_pattern.specs.Matching.Literals.{HasCount}
use Rattle.glob_pattern.specs.Matching.Texts.{Matches}
use Rattle.glob_pattern.specs.declared.options.MatchOptions.{MatchOptions}
use Rattle.glob_text.specs.Text.{Text}
use Rattle.glob_set.specs.Private.Pairs.{class_bit, text_class, HasBits, HasClass, IsPairAt, IsNeed, AreNeeds}
use Rattle.glob_set.specs.declared.pairs.Need.{Need}
use Rattle.glob_set.proofs.PairLemmas.{within_zero, within_both}

pub needs_more : (patterns : List Text) (needs new : List Need) (i : ℕ) (pattern : Text) (need : Need)
    → ((k : ℕ) (d : Need) → k < i → IsNeed (get_or patterns k []) (get_or needs k d)) → length needs ≡ i → i < length patterns
    → pattern ≡ get_or patterns i pattern → IsNeed pattern need → new ≡ needs ++ need ∷ []
    → (k : ℕ) (d : Need) → k < i + 1 → IsNeed (get_or patterns k []) (get_or new k d)
needs_more patterns needs new i pattern need each as_many below is needed more k d =
    below_more (λ k. IsNeed (get_or patterns k []) (get_or new k d)) i
    (λ k under. subst (IsNeed (get_or patterns k [])) (sym (ap (λ ns. get_or ns k d) more ∙ get_or_append_left needs
    (need ∷ []) d k (omega arith))) (each k d under))
    (subst (IsNeed (get_or patterns i [])) (sym (ap (λ ns. get_or ns i d) more ∙ get_or_push needs need d i as_many))
    (subst (λ p. IsNeed p need) (is ∙ get_or_default patterns i pattern [] below) needed)) k

pub length_more : {X : Type 0} (xs new : List X) (x : X) (i : ℕ) → length xs ≡ i → new ≡ xs ++ x ∷ [] → length new ≡ i + 1
length_more xs new x i as_many more = omega (arith, as_many, ap length more, length-append xs (x ∷ []))

pub needs_end : (patterns : List Text) (needs : List Need) (i : ℕ) → length needs ≡ i → i ≡ length patterns
    → ((k : ℕ) (d : Need) → k < i → IsNeed (get_or patterns k []) (get_or needs k d)) → AreNeeds patterns needs
needs_end patterns needs i as_many end each = record {
  same_length = as_many ∙ end;
  each = λ k d below. each k d (omega (arith, below, end));
}

-- no bits, and one more bit
pub HasBits-none : (pattern : Text) → HasBits pattern 0
unfolding HasBits
HasBits-none pattern = λ o bytes utf8 matches. within_zero _

pub HasBits-more : (pattern : Text) (bits more : ℕ) → HasBits pattern bits → HasBits pattern more → HasBits pattern (bit_or bits more)
unfolding HasBits
HasBits-more pattern bits more first second = λ o bytes utf8 matches. within_both bits more _
    (first o bytes utf8 matches) (second o bytes utf8 matches)

-- the bits, plus the bits of a pair, if there is one
pub HasBits-with : (pattern : Text) (number bits new : ℕ) (class : Option ℕ) → HasBits pattern bits → IfSome class (IsPairAt pattern number)
    → MatchOption class (new ≡ bits) (λ k. new ≡ bit_or bits (class_bit k)) → HasBits pattern new
HasBits-with pattern number bits new None has pair is = subst (HasBits pattern) (sym is) has
HasBits-with pattern number bits new (Some k) has pair is = subst (HasBits pattern) (sym is) (HasBits-more pattern bits
    (class_bit k) has pair.bits)

-- the class of the last pair
pub HasClass-last : (pattern : Text) (number : ℕ) (class : Option ℕ) → IfSome class (IsPairAt pattern number)
    → HasCount (chars pattern) (number + 1)
    → IfSome class (HasClass pattern)
HasClass-last pattern number None pair count = tt
HasClass-last pattern number (Some k) pair count = pair.last count

-- a pattern whose need is of another class does not match
pub other_class : (pattern : Text) (need : Need) (o : MatchOptions) (bytes : List ℕ) → IsNeed pattern need → IsUtf8 bytes
    → IsSomeAnd need.class (λ known. known ≢ text_class bytes) → ¬ (Matches o (chars pattern) (chars bytes))
unfolding HasClass
other_class pattern need o bytes is utf8 other matches = of need.class is.class other
  where
    of : (known : Option ℕ) → IfSome known (HasClass pattern) → IsSomeAnd known (λ k. k ≢ text_class bytes) → ⊥
    of None has not = absurd not
    of (Some k) has not = not (sym (has o bytes utf8 matches))
