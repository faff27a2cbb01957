-- Listing the keys of patterns, and choosing one for each pattern.
use Rattle.std.proofs.Common.{◌≡◌, ℕ, ◌+◌, ◌-◌, ◌<◌, ◌≤◌, List, [], ◌∷◌, ◌++◌, length, drop, get_or, Option, Some, None}
use Rattle.std.proofs.Common.{IfSome, All, Contains, refl, sym, ap, subst, ◌∙◌, arith, below_more, length-append}
use Rattle.std.proofs.lemmas.List.{get_or_default, get_or_push, get_or_append_left, get_or-append_right, get_or-take, get_or-drop}
use Rattle.std.proofs.lemmas.List.Elements.{All-contains, All-from_get_or, All-get_or}
use Rattle.glob_text.specs.Text.{Text}
use Rattle.glob_set.specs.declared.key.Key.{Key}
use Rattle.glob_set.specs.Private.Keys.{HasKey, AreKeys, AreListed}
use Rattle.glob_set.specs.declared.key.Key.TheVariants.{Component}
use Rattle.std.specs.List.{slice_range}
use Rattle.glob_pattern.proofs.MatchingLemmas.Stripped.{length-range}
use Rattle.glob_set.proofs.NeedLists.{length_more}

no_key : Key
no_key = Component 0

-- one of the keys of a pattern
key_of : (pattern : Text) (keys : List Key) (key : Option Key) → All (HasKey pattern) keys → IfSome key (Contains keys)
    → IfSome key (HasKey pattern)
key_of pattern keys None all among = tt
key_of pattern keys (Some key) all among = All-contains (HasKey pattern) keys key all among

pub keys_more : (patterns : List Text) (keys new : List (Option Key)) (i : ℕ) (pattern : Text) (found : List Key) (key : Option Key)
    → ((k : ℕ) → k < i → IfSome (get_or keys k None) (HasKey (get_or patterns k []))) → length keys ≡ i → i < length patterns
    → pattern ≡ get_or patterns i pattern → All (HasKey pattern) found → IfSome key (Contains found) → new ≡ keys ++ key ∷ []
    → (k : ℕ) → k < i + 1 → IfSome (get_or new k None) (HasKey (get_or patterns k []))
keys_more patterns keys new i pattern found key each as_many below is all among more k under =
    below_more (λ k. IfSome (get_or new k None) (HasKey (get_or patterns k []))) i
    (λ k low. subst (λ o. IfSome o (HasKey (get_or patterns k []))) (sym (ap (λ ks. get_or ks k None) more
    ∙ get_or_append_left keys (key ∷ []) None k (omega arith))) (each k low))
    (subst (λ o. IfSome o (HasKey (get_or patterns i []))) (sym (ap (λ ks. get_or ks i None) more ∙ get_or_push keys key None i as_many))
    (subst (λ p. IfSome key (HasKey p)) (is ∙ get_or_default patterns i pattern [] below) (key_of pattern found key all among)))
    k under

pub keys_end : (patterns : List Text) (keys : List (Option Key)) (i : ℕ) → length keys ≡ i → i ≡ length patterns
    → ((k : ℕ) → k < i → IfSome (get_or keys k None) (HasKey (get_or patterns k []))) → AreKeys patterns keys
keys_end patterns keys i as_many end each = record {
  same_length = as_many ∙ end;
  each = λ k below. each k (omega (arith, below, end));
}

-- the keys of one more pattern
pub listed_more : (patterns : List Text) (n : ℕ) (keys new : List Key) (starts all : List ℕ) (pattern : Text) (found : List Key)
    → n < length patterns → pattern ≡ get_or patterns n pattern → All (HasKey pattern) found → new ≡ keys ++ found
    → all ≡ starts ++ length new ∷ []
    → AreListed patterns n keys starts → AreListed patterns (n + 1) new all
listed_more patterns n keys new starts all pattern found below is has more starting are = record {
  as_many = length_more starts all (length new) (n + 1) are.as_many starting;
  last = end;
  order = below_more (λ k. get_or all k 0 ≤ get_or all (k + 1) 0) n
      (λ k under. omega (arith, same k (omega (arith, under)), same (k + 1) (omega (arith, under)), are.order k under))
      (omega (arith, same n (omega arith), end, are.last, longer));
  within = below_more (λ k. get_or all k 0 ≤ length new) (n + 1)
      (λ k under. omega (arith, same k under, are.within k under, longer))
      (omega (arith, end));
  each = λ k j d under. below_more (λ k. get_or all k 0 ≤ j → j < get_or all (k + 1) 0 → HasKey (get_or patterns k []) (get_or new j d)) n
      (λ k low from to. let before : j < length keys = omega (
        arith,
        to,
        same (k + 1) (omega (arith, low)),
        are.within
            (k + 1) (omega (arith, low)),
      ) in
      subst (HasKey (get_or patterns k [])) (sym (ap (λ ks. get_or ks j d) more ∙ get_or_append_left keys found d j before))
      (are.each k j d low (omega (arith, from, same k (omega (arith, low)))) (omega (arith, to, same (k + 1) (omega (arith, low))))))
      (λ from to. let after : length keys ≤ j = omega (arith, from, same n (omega arith), are.last) in
      subst (HasKey (get_or patterns n [])) (sym (ap (λ ks. get_or ks j d) more ∙ get_or-append_right keys found
      (length keys) j d refl after))
      (subst (λ p. HasKey p (get_or found (j - length keys) d)) (is ∙ get_or_default patterns n pattern [] below)
      (All-get_or (HasKey pattern) found (j - length keys) d (omega (arith, to, end, after, sum)) has)))
      k under;
}
  where
    sum : length new ≡ length keys + length found
    sum = ap length more ∙ length-append keys found

    longer : length keys ≤ length new
    longer = omega (arith, sum)

    same : (k : ℕ) → k < n + 1 → get_or all k 0 ≡ get_or starts k 0
    same k low = ap (λ s. get_or s k 0) starting ∙ get_or_append_left starts (length new ∷ []) 0 k (omega (arith, low, are.as_many))

    end : get_or all (n + 1) 0 ≡ length new
    end = ap (λ s. get_or s (n + 1) 0) starting ∙ get_or_push starts (length new) 0 (n + 1) are.as_many

-- the keys listed between two starts
pub listed_keys : (patterns : List Text) (n : ℕ) (keys : List Key) (starts : List ℕ) (k : ℕ) → k < n → AreListed patterns n keys starts
    → All (HasKey (get_or patterns k [])) (slice_range keys (get_or starts k 0) (get_or starts (k + 1) 0))
listed_keys patterns n keys starts k below are =
    let from : ℕ = get_or starts k 0 in
    let to : ℕ = get_or starts (k + 1) 0 in
    All-from_get_or (HasKey (get_or patterns k [])) (slice_range keys from to) no_key
    (λ i under. let within : i < to - from = omega (
      arith,
      under,
      length-range keys from to (are.order k below)
          (are.within (k + 1) (omega (arith, below))),
    ) in
    subst (HasKey (get_or patterns k [])) (sym (get_or-take (to - from) (drop from keys) i no_key within ∙ get_or-drop from keys i no_key))
    (are.each k (from + i) no_key below (omega arith) (omega (arith, within))))
