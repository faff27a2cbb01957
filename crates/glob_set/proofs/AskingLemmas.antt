-- Asking the patterns in two lists about a text, and what both answers say together.
use Rattle.std.proofs.Common.{◌≡◌, ℕ, ◌+◌, ◌<◌, ◌≤◌, ◌⊎◌, inl, inr, min, max, false, List, [], ◌∷◌, ◌++◌, length}
use Rattle.std.proofs.Common.{get_or, Option, Some, None, IfSome, IsNone, IsTrue, Result, Ok, Err, OnOk, All, Contains}
use Rattle.std.proofs.Common.{refl, sym, ap, subst, ◌∙◌, arith, ⊎_elim, below_more}
use Rattle.std.proofs.lemmas.Bool.{cases_lt, false≢true}
use Rattle.std.proofs.lemmas.List.{get_or_default}
use Rattle.std.proofs.lemmas.List.Elements.{Contains-append_left, Contains-push, Contains-push_cases}
use Rattle.std.specs.List.Sorted.{IsNonDecreasing}
use Rattle.std.specs.Str.{IsUtf8}
use Rattle.glob_text.specs.Text.{Text}
use Rattle.glob_pattern.specs.declared.options.MatchOptions.{MatchOptions}
use Rattle.glob_set.specs.Private.Asking.{AreAsked, AreMatches, IsFirstOf, IsLastOf, earlier, later}
use Rattle.glob_set.specs.Private.Buckets.{IsBucket, AreBuckets, IsAll}
use Rattle.glob_set.specs.declared.key.Key.{Key}
use Rattle.glob_set.specs.Private.Keyed.{FoundNumbers, Finds}
use Rattle.glob_set.specs.Private.Keys.{AreKeys, HasKey, IsKeyOf}
use Rattle.glob_set.specs.Private.Pairs.{AreNeeds, text_class}
use Rattle.glob_set.specs.declared.pairs.Need.{Need}
use Rattle.glob_set.proofs.NeedLists.{other_class}
use Rattle.glob_set.specs.Sets.{MatchesAt, AnyMatch, FirstMatch, LastMatch}
use Rattle.glob_set.proofs.ListReading.{within_patterns}

module _ (o : MatchOptions) (patterns : List Text) (text : Text) where
  -- a pattern with a key is found by it
  found_by_key : IsUtf8 text → (keys : List (Option Key)) (found : FoundNumbers) → AreKeys patterns keys → Finds keys (IsKeyOf text) found
      → (k : ℕ) → MatchesAt o patterns text k → IsNone (get_or keys k None) ⊎ (IsTrue found.is_full ⊎ Contains found.items k)
  unfolding MatchesAt HasKey Finds
  found_by_key utf8 keys found are finds k at = of (get_or keys k None) refl (are.each k at.0)
    where
      of : (key : Option Key) → get_or keys k None ≡ key → IfSome key (HasKey (get_or patterns k []))
          → IsNone key ⊎ (IsTrue found.is_full ⊎ Contains found.items k)
      of None is has = inl refl
      of (Some key) is has = inr (finds k key (omega (arith, at.0, are.same_length)) is (has o text utf8 at.1))

  -- a pattern without a key is in the bucket
  listed_without_key : IsUtf8 text → (needs : List Need) (keys : List (Option Key)) (numbers : List ℕ) → AreNeeds patterns needs
      → IsBucket needs keys (text_class text) (length needs) numbers → (k : ℕ) → MatchesAt o patterns text k → IsNone
      (get_or keys k None) → Contains numbers k
  unfolding MatchesAt
  listed_without_key utf8 needs keys numbers are bucket k at none =
      let no_need : Need = record { bits = 0; class = None } in
      ⊎_elim (λ has. has) (λ other. absurd (other_class (get_or patterns k []) (get_or needs k no_need) o text
      (are.each k no_need at.0) utf8 other at.1))
      (bucket.all k no_need (omega (arith, at.0, are.same_length)) none)

  -- the numbers of a bucket, and those that are found
  pub AreAsked-bucket : IsUtf8 text → (needs : List Need) (keys : List (Option Key)) (listed : List ℕ)
      (found : FoundNumbers) → AreNeeds patterns needs
      → AreKeys patterns keys → IsBucket needs keys (text_class text) (length needs) listed → found.is_full ≡ false
      → All (λ k. k < length keys) found.items → IsNonDecreasing found.items → Finds keys (IsKeyOf text) found
      → AreAsked o patterns text listed found.items
  AreAsked-bucket utf8 needs keys listed found needed are bucket room within order finds = record {
    listed_within = subst (λ n. All (λ k. k < n) listed) needed.same_length bucket.within;
    found_within = subst (λ n. All (λ k. k < n) found.items) are.same_length within;
    listed_order = bucket.order;
    found_order = order;
    all = λ k at.
        ⊎_elim (λ none. inl (listed_without_key utf8 needs keys listed needed bucket k at none))
        (λ keyed. ⊎_elim (λ full. absurd (false≢true (sym room ∙ full))) (λ has. inr has) keyed)
        (found_by_key utf8 keys found are finds k at);
  }

  -- all numbers
  pub AreAsked-all : (keys : List (Option Key)) (listed : List ℕ) (found : List ℕ) → length keys ≡ length patterns
      → IsAll (length patterns) listed
      → All (λ k. k < length keys) found → IsNonDecreasing found → AreAsked o patterns text listed found
  AreAsked-all keys listed found same all within order = record {
    listed_within = all.within;
    found_within = subst (λ n. All (λ k. k < n) found) same within;
    listed_order = all.order;
    found_order = order;
    all = λ k at. inl (all.all k (within_patterns o patterns text k at));
  }

  -- no number before a place of the list is the number of a match
  abbrev pub NoneBefore : (numbers : List ℕ) → ℕ → Type 0
  NoneBefore numbers n = (j : ℕ) → j < n → ¬ (MatchesAt o patterns text (get_or numbers j 0))

  -- no number from a place of the list on is the number of a match
  abbrev pub NoneAfter : (numbers : List ℕ) → ℕ → Type 0
  NoneAfter numbers n = (j : ℕ) → n ≤ j → j < length numbers → ¬ (MatchesAt o patterns text (get_or numbers j 0))

  none_of : (numbers : List ℕ) → ((j : ℕ) → j < length numbers → ¬ (MatchesAt o patterns text (get_or numbers j 0)))
      → (k : ℕ) → Contains numbers k → ¬ (MatchesAt o patterns text k)
  none_of numbers none k (j, below, is) at =
      none j below (subst (MatchesAt o patterns text) (sym (sym (get_or_default numbers j k 0 below) ∙ is)) at)

  pub IsFirstOf-none : (numbers : List ℕ) → NoneBefore numbers (length numbers) → IsFirstOf o patterns text numbers None
  unfolding IsFirstOf
  IsFirstOf-none numbers none = none_of numbers none

  pub IsLastOf-none : (numbers : List ℕ) → NoneAfter numbers 0 → IsLastOf o patterns text numbers None
  unfolding IsLastOf
  IsLastOf-none numbers none = none_of numbers (λ j below. none j (omega arith) below)

  pub IsFirstOf-at : (numbers : List ℕ) (i : ℕ) → IsNonDecreasing numbers → i < length numbers → NoneBefore numbers i
      → MatchesAt o patterns text (get_or numbers i 0) → IsFirstOf o patterns text numbers (Some (get_or numbers i 0))
  unfolding IsFirstOf
  IsFirstOf-at numbers i order below none at = (
    at,
    λ k (j, within, is) under here.
        let same : get_or numbers j 0 ≡ k = sym (get_or_default numbers j k 0 within) ∙ is in
        ⊎_elim
        (λ before. none j before (subst (MatchesAt o patterns text) (sym same) here))
        (λ from. absurd (omega (arith, under, same, order i j 0 from within)))
        (cases_lt j i),
  )

  pub IsLastOf-at : (numbers : List ℕ) (i : ℕ) → IsNonDecreasing numbers → i < length numbers → NoneAfter numbers (i + 1)
      → MatchesAt o patterns text (get_or numbers i 0) → IsLastOf o patterns text numbers (Some (get_or numbers i 0))
  unfolding IsLastOf
  IsLastOf-at numbers i order below none at = (
    at,
    λ k (j, within, is) above here.
        let same : get_or numbers j 0 ≡ k = sym (get_or_default numbers j k 0 within) ∙ is in
        ⊎_elim
        (λ upto. absurd (omega (arith, above, same, order j i 0 (omega (arith, upto)) below)))
        (λ past. none j past within (subst (MatchesAt o patterns text) (sym same) here))
        (cases_lt j (i + 1)),
  )

  module _ (listed found : List ℕ) (asked : AreAsked o patterns text listed found) where
    -- the lower of the answers of both lists is the first match
    pub FirstMatch-of : (one other : Option ℕ) → IsFirstOf o patterns text listed one → IsFirstOf o patterns text found other
        → FirstMatch o patterns text (earlier one other)
    unfolding IsFirstOf FirstMatch AnyMatch
    FirstMatch-of None None first second = λ any. ⊎_elim (λ has. first any.0 has any.1) (λ has. second any.0 has any.1)
        (asked.all any.0 any.1)
    FirstMatch-of (Some m) None first second = (
      first.0,
      λ k below at. ⊎_elim (λ has. first.1 k has below at) (λ has. second k has at) (asked.all k at),
    )
    FirstMatch-of None (Some n) first second = (
      second.0,
      λ k below at. ⊎_elim (λ has. first k has at) (λ has. second.1 k has below at) (asked.all k at),
    )
    FirstMatch-of (Some m) (Some n) first second = (
      ⊎_elim
          (λ less. subst (MatchesAt o patterns text) (let e : m ≡ min m n = omega (arith, less) in e) first.0)
          (λ more. subst (MatchesAt o patterns text) (let e : n ≡ min m n = omega (arith, more) in e) second.0)
          (cases_lt m n),
      λ k below at. ⊎_elim (λ has. first.1 k has (omega (arith, below)) at) (λ has. second.1 k has
          (omega (arith, below)) at) (asked.all k at),
    )

    pub LastMatch-of : (one other : Option ℕ) → IsLastOf o patterns text listed one → IsLastOf o patterns text found other
        → LastMatch o patterns text (later one other)
    unfolding IsLastOf LastMatch AnyMatch
    LastMatch-of None None first second = λ any. ⊎_elim (λ has. first any.0 has any.1) (λ has. second any.0 has any.1)
        (asked.all any.0 any.1)
    LastMatch-of (Some m) None first second = (
      first.0,
      λ k above at. ⊎_elim (λ has. first.1 k has above at) (λ has. second k has at) (asked.all k at),
    )
    LastMatch-of None (Some n) first second = (
      second.0,
      λ k above at. ⊎_elim (λ has. first k has at) (λ has. second.1 k has above at) (asked.all k at),
    )
    LastMatch-of (Some m) (Some n) first second = (
      ⊎_elim
          (λ less. subst (MatchesAt o patterns text) (let e : n ≡ max m n = omega (arith, less) in e) second.0)
          (λ more. subst (MatchesAt o patterns text) (let e : m ≡ max m n = omega (arith, more) in e) first.0)
          (cases_lt m n),
      λ k above at. ⊎_elim (λ has. first.1 k has (omega (arith, above)) at) (λ has. second.1 k has
          (omega (arith, above)) at) (asked.all k at),
    )

    -- the numbers of the matches, after both lists
    pub AreMatches-of : (first second : List ℕ)
        → ((k : ℕ) → Contains first k → MatchesAt o patterns text k)
        → ((k : ℕ) → Contains listed k → MatchesAt o patterns text k → Contains first k)
        → ((k : ℕ) → Contains second k → Contains first k ⊎ MatchesAt o patterns text k) → ((k : ℕ) → Contains first k → Contains second k)
        → ((k : ℕ) → Contains found k → MatchesAt o patterns text k → Contains second k) → AreMatches o patterns text second
    unfolding AreMatches
    AreMatches-of first second only all_first more kept all_second = (
      λ k has. ⊎_elim (only k) (λ at. at) (more k has),
      λ k at. ⊎_elim (λ has. kept k (all_first k has at)) (λ has. all_second k has at) (asked.all k at),
    )

-- if a call ensures P when it succeeds, and Q follows from P, it ensures Q
pub OnOk-follow : {T E : Type 0} (r : Result T E) (P Q : Type 0) → (P → Q) → OnOk r P → OnOk r Q
OnOk-follow (Ok x) P Q follows known = follows known
OnOk-follow (Err e) P Q follows known = tt

-- The numbers that were there before, and those of the first `count` asked ones that match.
pub record PushedSoFar (o : MatchOptions) (patterns : List Text) (text : Text) (before asked : List ℕ) (count : ℕ)
    (numbers : List ℕ) : Type 0 where
  pub only : (k : ℕ) → Contains numbers k → Contains before k ⊎ MatchesAt o patterns text k
  pub kept : (k : ℕ) → Contains before k → Contains numbers k
  pub all : (j : ℕ) → j < count → MatchesAt o patterns text (get_or asked j 0) → Contains numbers (get_or asked j 0)

module _ (o : MatchOptions) (patterns : List Text) (text : Text) (before asked : List ℕ) where
  pub PushedSoFar-start : PushedSoFar o patterns text before asked 0 before
  PushedSoFar-start = record {
    only = λ k has. inl has;
    kept = λ k has. has;
    all = λ j below. absurd (omega (arith, below));
  }

  pub PushedSoFar-yes : (i : ℕ) (numbers new : List ℕ) → MatchesAt o patterns text (get_or asked i 0) → new ≡ numbers
      ++ get_or asked i 0 ∷ []
      → PushedSoFar o patterns text before asked i numbers → PushedSoFar o patterns text before asked (i + 1) new
  PushedSoFar-yes i numbers new at is so_far =
      let n = get_or asked i 0 in
      subst (PushedSoFar o patterns text before asked (i + 1)) (sym is) (record {
        only = λ k has. ⊎_elim (so_far.only k) (λ same. inr (subst (MatchesAt o patterns text) same at))
            (Contains-push_cases numbers n k has);
        kept = λ k has. Contains-append_left numbers (n ∷ []) k (so_far.kept k has);
        all = below_more (λ j. MatchesAt o patterns text (get_or asked j 0) → Contains (numbers ++ n ∷ []) (get_or asked j 0)) i
            (λ j below here. Contains-append_left numbers (n ∷ []) (get_or asked j 0) (so_far.all j below here))
            (λ _. Contains-push numbers n);
      })

  pub PushedSoFar-no : (i : ℕ) (numbers : List ℕ) → ¬ (MatchesAt o patterns text (get_or asked i 0))
      → PushedSoFar o patterns text before asked i numbers → PushedSoFar o patterns text before asked (i + 1) numbers
  PushedSoFar-no i numbers not so_far = record {
    only = so_far.only;
    kept = so_far.kept;
    all = below_more (λ j. MatchesAt o patterns text (get_or asked j 0) → Contains numbers (get_or asked j 0)) i
        so_far.all (λ at. absurd (not at));
  }

  pub PushedSoFar-end : (count : ℕ) (numbers : List ℕ) → length asked ≤ count → PushedSoFar o patterns text before asked count numbers
      → (k : ℕ) → Contains asked k → MatchesAt o patterns text k → Contains numbers k
  PushedSoFar-end count numbers end so_far k (j, below, is) at =
      let same : get_or asked j 0 ≡ k = sym (get_or_default asked j k 0 below) ∙ is in
      subst (Contains numbers) same (so_far.all j (omega (arith, below, end)) (subst (MatchesAt o patterns text) (sym same) at))

-- an empty list held no numbers before
pub only_matches : (P : ℕ → Type 0) (before numbers : List ℕ) → before ≡ [] → ((k : ℕ) → Contains numbers k → Contains before k ⊎ P k)
    → (k : ℕ) → Contains numbers k → P k
only_matches P before numbers none only k has =
    ⊎_elim (λ (j, below, is). absurd (omega (arith, below, ap length none))) (λ at. at) (only k has)

-- the bucket of a text
pub bucket_for : (needs : List Need) (keys : List (Option Key)) (buckets : List (List ℕ)) (class : ℕ) (text : Text) (bucket : List ℕ)
    → AreBuckets needs keys (length needs) buckets → class < 128 → class ≡ text_class text → bucket ≡ get_or buckets class []
    → IsBucket needs keys (text_class text) (length needs) bucket
bucket_for needs keys buckets class text bucket are small of is =
    subst (λ c. IsBucket needs keys c (length needs) bucket) of (subst (IsBucket needs keys class (length needs))
    (sym is) (are.each class small))
