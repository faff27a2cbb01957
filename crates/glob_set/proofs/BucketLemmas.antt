-- Filling the buckets of a set, pattern by pattern.
use Rattle.std.proofs.Common.{◌≡◌, ◌≢◌, ℕ, ◌+◌, ◌-◌, ◌<◌, ◌≤◌, ◌⊎◌, inl, inr, List, [], ◌∷◌, ◌++◌, length, map, take}
use Rattle.std.proofs.Common.{drop, set, replicate, get_or, Option, Some, None, IfSome, IsNone, IsSome, IsSomeAnd}
use Rattle.std.proofs.Common.{Result, Ok, Err, OnOk, All, Contains, refl, sym, ap, ap₂, subst, ◌∙◌, arith, below_more}
use Rattle.std.proofs.Common.{⊎_elim}
use Rattle.std.proofs.lemmas.Bool.{cases_eq, true≢false}
use Rattle.std.proofs.lemmas.List.{append-nil, drop_all, take_all, get_or_default, get_or-map, get_or-set_same}
use Rattle.std.proofs.lemmas.List.{get_or-set_other, get_or-replicate, length-map, length-set, length-replicate}
use Rattle.std.proofs.lemmas.List.{map-set}
use Rattle.std.proofs.lemmas.List.Elements.{All-nil, All-push, All-weaker, All-get_or, Contains-append_left, Contains-push}
use Rattle.std.proofs.lemmas.List.Sorted.{IsNonDecreasingBy-push, IsNonDecreasingBy-short}
use Rattle.std.specs.List.Sorted.{IsNonDecreasing}
use Rattle.glob_set.specs.declared.key.Key.{Key}
use Rattle.glob_set.specs.declared.pairs.Need.{Need}
use Rattle.glob_set.specs.Private.Buckets.{AreBuckets, IsAll, IsBucket, with_another, with_number}
use Rattle.glob_set.specs.Private.Keyed.{few_or_many}
use Rattle.glob_set.specs.Private.Pairs.{HasSmallClass}

no_need : Need
no_need = record { bits = 0; class = None }

abbrev pub no_number : List ℕ
no_number = []

-- a number that is higher than all is added
within_more : (n : ℕ) (numbers new : List ℕ) → new ≡ numbers ++ n ∷ [] → All (λ k. k < n) numbers → All (λ k. k < n + 1) new
within_more n numbers new is within =
    subst (All (λ k. k < n + 1)) (sym is)
    (All-push (λ k. k < n + 1) numbers n (All-weaker (λ k. k < n) (λ k. k < n + 1) (λ k below. omega (arith, below))
    numbers within) (omega arith))

order_more : (n : ℕ) (numbers new : List ℕ) → new ≡ numbers ++ n ∷ [] → All (λ k. k < n) numbers → IsNonDecreasing
    numbers → IsNonDecreasing new
order_more n numbers new is within order =
    subst IsNonDecreasing (sym is)
    (IsNonDecreasingBy-push (λ k. k) numbers n order
    (λ d some. let below : get_or numbers (length numbers - 1) d < n = All-get_or (λ k. k < n) numbers
    (length numbers - 1) d (omega (arith, some)) within in omega (arith, below)))

kept : (n k : ℕ) (numbers new : List ℕ) → new ≡ numbers ++ n ∷ [] → Contains numbers k → Contains new k
kept n k numbers new is has = subst (λ ks. Contains ks k) (sym is) (Contains-append_left numbers (n ∷ []) k has)

added : (n : ℕ) (numbers new : List ℕ) → new ≡ numbers ++ n ∷ [] → Contains new n
added n numbers new is = subst (λ ks. Contains ks n) (sym is) (Contains-push numbers n)

module _ (needs : List Need) (keys : List (Option Key)) (class : ℕ) where
  pub bucket_start : IsBucket needs keys class 0 []
  bucket_start = record {
    within = All-nil (λ k. k < 0);
    order = IsNonDecreasingBy-short (λ k. k) [] (omega arith);
    all = λ k d below. absurd (omega (arith, below));
  }

  -- one more number is kept
  pub bucket_keeps : (n : ℕ) (numbers new : List ℕ) → new ≡ numbers ++ n ∷ [] → IsBucket needs keys class n numbers
      → IsBucket needs keys class (n + 1) new
  bucket_keeps n numbers new is bucket = record {
    within = within_more n numbers new is bucket.within;
    order = order_more n numbers new is bucket.within bucket.order;
    all = λ k d below. below_more (λ k. IsNone (get_or keys k None) → Contains new k ⊎ IsSomeAnd
        (get_or needs k d).class (λ known. known ≢ class)) n
        (λ k under none. ⊎_elim (λ has. inl (kept n k numbers new is has)) (λ other. inr other) (bucket.all k d under none))
        (λ _. inl (added n numbers new is)) k below;
  }

  -- a number is left out
  pub bucket_skips : (n : ℕ) (numbers : List ℕ) (here : Need) → n < length needs
      → IsSome (get_or keys n None) ⊎ IsSomeAnd (get_or needs n here).class (λ known. known ≢ class)
      → IsBucket needs keys class n numbers → IsBucket needs keys class (n + 1) numbers
  bucket_skips n numbers here within why bucket = record {
    within = All-weaker (λ k. k < n) (λ k. k < n + 1) (λ k below. omega (arith, below)) numbers bucket.within;
    order = bucket.order;
    all = λ k d below. below_more (λ k. IsNone (get_or keys k None) → Contains numbers k ⊎ IsSomeAnd
        (get_or needs k d).class (λ known. known ≢ class)) n
        (λ k under. bucket.all k d under)
        (λ none. ⊎_elim (λ some. absurd (true≢false (sym some ∙ none)))
        (λ other. inr (subst (λ (own : Need). IsSomeAnd own.class (λ known. known ≢ class))
        (get_or_default needs n here d within) other)) why) k below;
  }

module _ (needs : List Need) (keys : List (Option Key)) where
  pub buckets_start : AreBuckets needs keys 0 (replicate 128 [])
  buckets_start = record {
    as_many = length-replicate 128 no_number;
    each = λ class below. subst (IsBucket needs keys class 0) (sym (get_or-replicate 128 class no_number no_number
        below)) (bucket_start needs keys class);
  }

  -- a pattern with a key is in no bucket
  pub buckets_skip : (n : ℕ) (buckets : List (List ℕ)) → n < length needs → IsSome (get_or keys n None) → AreBuckets needs keys n buckets
      → AreBuckets needs keys (n + 1) buckets
  buckets_skip n buckets below some are = record {
    as_many = are.as_many;
    each = λ class small. bucket_skips needs keys class n (get_or buckets class []) no_need below (inl some) (are.each class small);
  }

  -- a pattern without a class is in each bucket, and one with a class in its own
  pub buckets_add : (n : ℕ) (d : Need) (buckets new : List (List ℕ)) → n < length needs → All HasSmallClass needs
      → new ≡ with_number n (get_or needs n d).class buckets → AreBuckets needs keys n buckets → AreBuckets needs keys (n + 1) new
  buckets_add n d buckets new below small more are = of (get_or needs n d).class refl (All-get_or HasSmallClass needs n d below small) more
    where
      of : (class : Option ℕ) → (get_or needs n d).class ≡ class → IfSome class (λ k. k < 128) → new ≡ with_number n class buckets
          → AreBuckets needs keys (n + 1) new
      of None of_none low more = record {
        as_many = ap length more ∙ length-map buckets (λ numbers. numbers ++ n ∷ []) ∙ are.as_many;
        each = λ class small.
            bucket_keeps needs keys class n (get_or buckets class []) (get_or new class [])
            (ap (λ bs. get_or bs class []) more ∙ get_or-map (λ numbers. numbers ++ n ∷ []) buckets class [] []
            (omega (arith, small, are.as_many)))
            (are.each class small);
      }
      of (Some own) of_own low more = record {
        as_many = ap length more ∙ length-set buckets own (get_or buckets own [] ++ n ∷ []) ∙ are.as_many;
        each = λ class small. ⊎_elim
            (λ same. subst (λ k. IsBucket needs keys k (n + 1) (get_or new k [])) (sym same)
            (bucket_keeps needs keys own n (get_or buckets own []) (get_or new own [])
            (ap (λ bs. get_or bs own []) more ∙ get_or-set_same buckets own (get_or buckets own [] ++ n ∷ []) []
            (omega (arith, low, are.as_many)))
            (are.each own low)))
            (λ other. subst (IsBucket needs keys class (n + 1)) (sym (ap (λ bs. get_or bs class []) more
            ∙ get_or-set_other buckets own class (get_or buckets own [] ++ n ∷ []) [] other))
            (bucket_skips needs keys class n (get_or buckets class []) d below
            (inr (subst (λ known. IsSomeAnd known (λ k. k ≢ class)) (sym of_own) (λ same. other (sym same))))
            (are.each class small)))
            (cases_eq class own);
      }

-- numbers are added to buckets that are not used
few_or_many-another : (number : ℕ) (others numbers : List ℕ)
    → few_or_many (others ++ number ∷ []) (with_another number numbers) ≡ few_or_many others numbers ++ number ∷ []
few_or_many-another number others [] = refl
few_or_many-another number others (first ∷ rest) = refl

few_or_many-push : (number : ℕ) (others numbers : List ℕ) → few_or_many others (numbers ++ number ∷ []) ≡ numbers ++ number ∷ []
few_or_many-push number others [] = refl
few_or_many-push number others (first ∷ rest) = refl

pub with_number-none : (number : ℕ) (others : List ℕ) (classes : List (List ℕ))
    → map (few_or_many (others ++ number ∷ [])) (map (with_another number) classes) ≡ with_number number None
    (map (few_or_many others) classes)
with_number-none number others [] = refl
with_number-none number others (own ∷ classes) = ap₂ (λ o os. o ∷ os) (few_or_many-another number others own)
    (with_number-none number others classes)

pub with_number-some : (number class : ℕ) (others : List ℕ) (classes : List (List ℕ)) (new : List ℕ) → class < length classes
    → new ≡ few_or_many others (get_or classes class []) ++ number ∷ []
    → map (few_or_many others) (set classes class new) ≡ with_number number (Some class) (map (few_or_many others) classes)
with_number-some number class others classes new below is =
    map-set (few_or_many others) classes class new
    ∙ ap (set (map (few_or_many others) classes) class)
    (ap (few_or_many others) is ∙ few_or_many-push number others (few_or_many others (get_or classes class []))
    ∙ ap (λ own. own ++ number ∷ []) (sym (get_or-map (few_or_many others) classes class [] [] below)))

-- a number is added to each bucket, one after the other
pub all_added : (number : ℕ) (others rest : List ℕ) (classes items old : List (List ℕ)) (i : ℕ) → rest ≡ others ++ number ∷ []
    → items ≡ map (with_another number) (take i classes) ++ drop i classes → length classes ≤ i → map (few_or_many others) classes ≡ old
    → map (few_or_many rest) items ≡ with_number number None old
all_added number others rest classes items old i rest_is items_are end old_is =
    let whole : items ≡ map (with_another number) classes =
    items_are ∙ ap₂ (λ front back. map (with_another number) front ++ back) (take_all i classes end) (drop_all i classes end)
    ∙ append-nil (map (with_another number) classes) in
    ap₂ (λ r is. map (few_or_many r) is) rest_is whole
    ∙ with_number-none number others classes
    ∙ ap (with_number number None) old_is

-- a number is added to the bucket of its class
pub one_added : (number class : ℕ) (known : Option ℕ) (others : List ℕ) (classes old : List (List ℕ))
    (own added : List ℕ) → class < length classes
    → known ≡ Some class → own ≡ get_or classes class own → added ≡ few_or_many others own ++ number ∷ []
    → map (few_or_many others) classes ≡ old → map (few_or_many others) (set classes class added) ≡ with_number number known old
one_added number class known others classes old own added below known_is own_is added_is old_is =
    with_number-some number class others classes added below
    (added_is ∙ ap (λ o. few_or_many others o ++ number ∷ []) (own_is ∙ get_or_default classes class own [] below))
    ∙ ap₂ (λ k os. with_number number k os) (sym known_is) old_is

pub on_ok : {X E : Type 0} {P Q : Type 0} (result : Result X E) → (P → Q) → OnOk result P → OnOk result Q
on_ok (Ok x) f has = f has
on_ok (Err e) f has = tt

-- buckets without numbers
few_or_many-none : (numbers : List ℕ) → few_or_many [] numbers ≡ numbers
few_or_many-none [] = refl
few_or_many-none (first ∷ others) = refl

without_rest : (classes : List (List ℕ)) → map (few_or_many []) classes ≡ classes
without_rest [] = refl
without_rest (own ∷ classes) = ap₂ (λ o os. o ∷ os) (few_or_many-none own) (without_rest classes)

pub none_added : (rest : List ℕ) (classes : List (List ℕ)) (n : ℕ) → rest ≡ [] → classes ≡ replicate n no_number
    → map (few_or_many rest) classes ≡ replicate n no_number
none_added rest classes n rest_is are = ap₂ (λ r cs. map (few_or_many r) cs) rest_is are ∙ without_rest (replicate n no_number)

-- all numbers, as they are added
pub all_start : IsAll 0 []
all_start = record {
  within = All-nil (λ k. k < 0);
  order = IsNonDecreasingBy-short (λ k. k) [] (omega arith);
  all = λ k below. absurd (omega (arith, below));
}

pub all_more : (n : ℕ) (numbers new : List ℕ) → new ≡ numbers ++ n ∷ [] → IsAll n numbers → IsAll (n + 1) new
all_more n numbers new is all = record {
  within = within_more n numbers new is all.within;
  order = order_more n numbers new is all.within all.order;
  all = below_more (Contains new) n (λ k below. kept n k numbers new is (all.all k below)) (added n numbers new is);
}
