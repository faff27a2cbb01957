-- Adjacent `**` are read as one, which does not change the written listing.
use Rattle.std.proofs.Common.{◌≡◌, ℕ, zero, suc, ◌+◌, Bool, true, false, cond, not, ◌&&◌, List, [], ◌∷◌, ◌++◌, drop}
use Rattle.std.proofs.Common.{None, is_none, refl, ap, sym, subst, ◌∙◌, arith}
use Rattle.std.specs.List.{list_all}
use Rattle.std.proofs.lemmas.Bool.{and_from, and_parts, both_ways}
use Rattle.std.proofs.lemmas.List.{append_assoc}
use Rattle.std.proofs.Math.ListN.{drop_of_length-le}
use Rattle.glob_text.specs.Text.{Text}
use Rattle.glob_pattern.specs.declared.options.MatchOptions.{MatchOptions}
use Rattle.glob_tree.specs.Content.{Content}
use Rattle.glob_walk.specs.Components.{ComponentKind, Literal, Recursive, Wild, component_kind, components, is_literal}
use Rattle.glob_walk.specs.Components.{is_recursive, begins_recursive, start, walk_fault}
use Rattle.std.specs.Path.{root_dir, cur_dir}
use Rattle.glob_text.specs.Pieces.{begins_with, ends_with}
use Rattle.glob_text.specs.Characters.{slash}
use Rattle.glob_walk.specs.Goal.{are_plain, is_plain, is_plain_component}
use Rattle.glob_walk.specs.Walks.{by_name, by_match, descent, levels, enter, meet, match_at, look_up, listing}
use Rattle.glob_walk.specs.Machines.{listing_of}
use Rattle.glob_walk.specs.declared.plan.Plan.{Plan}
use Rattle.glob_walk.specs.Private.Stacks.{aim_of}
use Rattle.glob_walk.specs.Private.Merging.{merged, merged_after, are_merged}
use Rattle.glob_walk.specs.Private.Tasks.{IsOpened}
use Rattle.glob_walk.proofs.ListingLemmas.ComponentKinds.{recursive_is, recursive-kind, kind-Recursive}
use Rattle.glob_walk.proofs.ListingLemmas.Descending.{enter-literal, enter-wild, enter_none, enter-run, enter-recursive_none, enter-levels}

-- after a `**` no other is left
merged_begins : (ts : List Text) → begins_recursive (merged_after true ts) ≡ false
merged_begins [] = refl
merged_begins (t ∷ ts) = by_test (is_recursive t) refl (merged_begins ts)
  where
    by_test : (r : Bool) → is_recursive t ≡ r → begins_recursive (merged_after true ts) ≡ false
        → begins_recursive (cond r (merged_after true ts) (t ∷ merged_after r ts)) ≡ false
    by_test true h later = later
    by_test false h later = h

pub are_merged-merged : (run : Bool) (ts : List Text) → are_merged (merged_after run ts) ≡ true
are_merged-merged run [] = refl
are_merged-merged run (t ∷ ts) = by_test run (is_recursive t) refl (λ r. are_merged-merged r ts)
  where
    alone : (r : Bool) → is_recursive t ≡ r → not (is_recursive t && begins_recursive (merged_after r ts)) ≡ true
    alone true h = ap (λ b. not (b && begins_recursive (merged_after true ts))) h ∙ ap not (merged_begins ts)
    alone false h = ap (λ b. not (b && begins_recursive (merged_after false ts))) h

    pushed : (r : Bool) → is_recursive t ≡ r → are_merged (merged_after r ts) ≡ true → are_merged (t ∷ merged_after r ts) ≡ true
    pushed r h later = ap (λ b. b && are_merged (merged_after r ts)) (alone r h) ∙ later

    by_test : (b r : Bool) → is_recursive t ≡ r → ((r : Bool) → are_merged (merged_after r ts) ≡ true)
        → are_merged (cond (b && r) (merged_after true ts) (t ∷ merged_after r ts)) ≡ true
    by_test true true h later = later true
    by_test true false h later = pushed false h (later false)
    by_test false r h later = pushed r h (later r)

are_merged-drop : (n : ℕ) (ts : List Text) → are_merged ts ≡ true → are_merged (drop n ts) ≡ true
are_merged-drop zero ts h = h
are_merged-drop (suc n) [] h = ap are_merged (drop_of_length-le [] {i = suc n} (omega arith))
are_merged-drop (suc n) (t ∷ ts) h = are_merged-drop n ts (and_parts (not (is_recursive t && begins_recursive ts)) (are_merged ts) h).1

-- what holds for each component still does
pub list_all-merged : (p : Text → Bool) (run : Bool) (ts : List Text) → list_all p ts ≡ true → list_all p (merged_after run ts) ≡ true
list_all-merged p run [] h = refl
list_all-merged p run (t ∷ ts) h =
    let both = and_parts (p t) (list_all p ts) h in
    by_test both.0 (λ r. list_all-merged p r ts both.1) (run && is_recursive t)
  where
    by_test : p t ≡ true → ((r : Bool) → list_all p (merged_after r ts) ≡ true) → (b : Bool)
        → list_all p (cond b (merged_after true ts) (t ∷ merged_after (is_recursive t) ts)) ≡ true
    by_test one later true = later true
    by_test one later false = and_from (p t) (list_all p (merged_after (is_recursive t) ts)) one (later (is_recursive t))

-- and merged components are plain exactly when all are
pub plain-merged : (run : Bool) (ts : List Text) → are_plain run (merged_after run ts) ≡ are_plain run ts
plain-merged run [] = refl
plain-merged run (t ∷ ts) = by_test run (is_recursive t) refl (plain-merged (is_recursive t) ts)
  where
    by_test : (b r : Bool) → is_recursive t ≡ r → are_plain (is_recursive t) (merged_after (is_recursive t) ts) ≡
        are_plain (is_recursive t) ts
        → are_plain b (cond (b && r) (merged_after true ts) (t ∷ merged_after (is_recursive t) ts)) ≡ are_plain b (t ∷ ts)
    by_test true true h later =
        ap (λ r. are_plain true (merged_after r ts)) (sym h)
        ∙ ap (λ r. are_plain r (merged_after (is_recursive t) ts)) (sym h)
        ∙ later
        ∙ ap (λ b. b && are_plain (is_recursive t) ts) (sym (ap (is_plain_component true) (recursive_is t h)))
    by_test true false h later = ap (λ b. is_plain_component true t && b) later
    by_test false r h later = ap (λ b. is_plain_component false t && b) later

-- so each `**` is the last in its place
pub opened_run : (ts : List Text) (n : ℕ) (t : Text) → are_merged ts ≡ true → drop n ts ≡ t ∷ drop (n + 1) ts
    → component_kind t ≡ Recursive → IsOpened true (drop n ts)
opened_run ts n t merged at kind = subst (IsOpened true) (sym at) (kind, last (begins_recursive (drop (n + 1) ts)) refl)
  where
    rest : are_merged (t ∷ drop (n + 1) ts) ≡ true
    rest = ap are_merged (sym at) ∙ are_merged-drop n ts merged

    apart : not (is_recursive t && begins_recursive (drop (n + 1) ts)) ≡ true
    apart = (and_parts (not (is_recursive t && begins_recursive (drop (n + 1) ts))) (are_merged (drop (n + 1) ts)) rest).0

    last : (b : Bool) → begins_recursive (drop (n + 1) ts) ≡ b → b ≡ false
    last true h = absurd (both_ways false refl (sym (ap (λ r. not (r && begins_recursive (drop (n + 1) ts)))
        (kind-Recursive t kind) ∙ ap not h) ∙ apart))
    last false h = refl

-- a component that is not literal is listed for
pub opened_for : (ts : List Text) (n : ℕ) (t : Text) → are_merged ts ≡ true → drop n ts ≡ t ∷ drop (n + 1) ts → is_literal t ≡ false
    → (recursive : Bool) → recursive ≡ is_recursive t → IsOpened recursive (drop n ts)
opened_for ts n t merged at other true is =
    opened_run ts n t merged at (ap (λ b. cond b Literal (cond (is_recursive t) Recursive Wild)) other ∙ ap
    (λ b. cond b Recursive Wild) (sym is))
opened_for ts n t merged at other false is =
    subst (IsOpened false) (sym at) (ap (λ b. cond b Literal (cond (is_recursive t) Recursive Wild)) other ∙ ap
    (λ b. cond b Recursive Wild) (sym is))

-- one more component
pub merged-skip : (before : List Text) (parts rest : List Text) (run : Bool) (t : Text) → ((others : List Text)
    → merged (before ++ others) ≡ parts ++ merged_after run others)
    → (run && is_recursive t) ≡ true → merged ((before ++ t ∷ []) ++ rest) ≡ parts ++ merged_after (is_recursive t) rest
merged-skip before parts rest run t so_far h =
    ap merged (append_assoc before (t ∷ []) rest) ∙ so_far (t ∷ rest)
    ∙ ap (λ ts. parts ++ ts) (ap (λ b. cond b (merged_after true rest) (t ∷ merged_after (is_recursive t) rest)) h ∙ ap
    (λ b. merged_after b rest) (sym (and_parts run (is_recursive t) h).1))

pub merged-push : (before : List Text) (parts rest : List Text) (run : Bool) (t : Text) → ((others : List Text)
    → merged (before ++ others) ≡ parts ++ merged_after run others)
    → (run && is_recursive t) ≡ false → merged ((before ++ t ∷ []) ++ rest) ≡ (parts ++ t ∷ []) ++ merged_after (is_recursive t) rest
merged-push before parts rest run t so_far h =
    ap merged (append_assoc before (t ∷ []) rest) ∙ so_far (t ∷ rest)
    ∙ ap (λ ts. parts ++ ts) (ap (λ b. cond b (merged_after true rest) (t ∷ merged_after (is_recursive t) rest)) h)
    ∙ sym (append_assoc parts (t ∷ []) (merged_after (is_recursive t) rest))

module _ (c : Content) (o : MatchOptions) (directories : Bool) where
  -- what follows a component matters only by what it does
  after_other : (t : Text) (xs ys : List Text) → is_recursive t ≡ false → enter c o directories xs ≡ enter c o directories ys
      → enter c o directories (t ∷ xs) ≡ enter c o directories (t ∷ ys)
  after_other t xs ys other e = λ i path d. by_kind (component_kind t) refl path d i
    where
      by_kind : (k : ComponentKind) → component_kind t ≡ k → (path : Text) (d : Bool) → enter c o directories
          (t ∷ xs) path d ≡ enter c o directories (t ∷ ys) path d
      by_kind Literal k path d = enter-literal c o directories t xs path d k ∙ ap (λ f. by_name c f t path d) e ∙ sym
          (enter-literal c o directories t ys path d k)
      by_kind Wild k path true = enter-wild c o directories t xs path k ∙ ap (λ f. by_match c o f t path) e ∙ sym
          (enter-wild c o directories t ys path k)
      by_kind Wild k path false = enter_none c o directories t xs path k ∙ sym (enter_none c o directories t ys path k)
      by_kind Recursive k path d = absurd (both_ways (is_recursive t) other (kind-Recursive t k))

  after_first_recursive : (t u : Text) (xs ys : List Text) → is_recursive t ≡ true → is_recursive u ≡ false
      → enter c o directories xs ≡ enter c o directories ys
      → enter c o directories (t ∷ u ∷ xs) ≡ enter c o directories (t ∷ u ∷ ys)
  unfolding meet
  after_first_recursive t u xs ys h other e = λ i path d. by_directory path d i
    where
      same : meet c o directories (u ∷ xs) ≡ meet c o directories (u ∷ ys)
      same = ap (λ f path name d. match_at o f u path name d) e

      by_directory : (path : Text) (d : Bool) → enter c o directories (t ∷ u ∷ xs) path d ≡ enter c o directories (t ∷ u ∷ ys) path d
      by_directory path true =
          enter-levels c o directories t (u ∷ xs) path (recursive-kind t h) other
          ∙ ap (λ f. descent c o f (levels c) path) same
          ∙ sym (enter-levels c o directories t (u ∷ ys) path (recursive-kind t h) other)
      by_directory path false =
          enter-recursive_none c o directories t (u ∷ xs) path (recursive-kind t h) other
          ∙ sym (enter-recursive_none c o directories t (u ∷ ys) path (recursive-kind t h) other)

  -- merged components do the same, by themselves and after a `**`
  abbrev AreAsMerged : List Text → Type 0
  AreAsMerged ts =
      (enter c o directories (merged ts) ≡ enter c o directories ts)
      × ((t : Text) → is_recursive t ≡ true → enter c o directories (t ∷ merged_after true ts) ≡ enter c o directories (t ∷ ts))

  as_merged : (ts : List Text) → AreAsMerged ts
  as_merged [] = (refl, λ t h. refl)
  as_merged (u ∷ us) = let later = as_merged us in (alone later (is_recursive u) refl, λ t h. after later t h (is_recursive u) refl)
    where
      alone : AreAsMerged us → (r : Bool) → is_recursive u ≡ r → enter c o directories (u ∷ merged_after r us) ≡ enter
          c o directories (u ∷ us)
      alone later true h = later.1 u h
      alone later false h = after_other u (merged us) us h later.0

      after : AreAsMerged us → (t : Text) → is_recursive t ≡ true → (r : Bool) → is_recursive u ≡ r
          → enter c o directories (t ∷ (cond r (merged_after true us) (u ∷ merged_after r us))) ≡ enter c o directories (t ∷ u ∷ us)
      after later t h true more =
          ap (λ s. enter c o directories (s ∷ merged_after true us)) (recursive_is t h ∙ sym (recursive_is u more))
          ∙ later.1 u more
          ∙ (λ i path d. sym (enter-run c o directories t (u ∷ us) path d (recursive-kind t h) more) i)
      after later t h false other = after_first_recursive t u (merged us) us h other later.0

  pub enter-merged : (ts : List Text) → enter c o directories (merged ts) ≡ enter c o directories ts
  enter-merged ts = (as_merged ts).0

-- entering the merged components is what the listing does
pub merged_listing : (c : Content) (o : MatchOptions) (pattern : Text)
    → look_up c true (enter c o (ends_with slash pattern) (merged (components pattern))) (start pattern) ≡ listing c o pattern
unfolding listing
merged_listing c o pattern = ap (λ next. look_up c true next (start pattern)) (enter-merged c o
    (ends_with slash pattern) (components pattern))

-- so the plan of a pattern looks for its listing
pub aim_listing : {A : Type 0} (c : Content) (o : MatchOptions) (pattern : Text) (plan : Plan A) → plan.options ≡ o
    → plan.rooted ≡ begins_with slash pattern → plan.directories ≡ ends_with slash pattern
    → plan.components.items ≡ merged (components pattern) → listing_of c (aim_of plan) ≡ listing c o pattern
aim_listing c o pattern plan options rooted directories parts =
    (λ i. look_up c true (enter c (options i) (directories i) (parts i)) (cond (rooted i) root_dir cur_dir))
    ∙ merged_listing c o pattern

-- and is plain if the pattern is
pub aim_plain : {A : Type 0} (pattern : Text) (plan : Plan A) → walk_fault pattern ≡ None
    → plan.components.items ≡ merged (components pattern) → are_plain false plan.components.items ≡ is_plain pattern
unfolding is_plain
aim_plain pattern plan faultless parts =
    ap (are_plain false) parts
    ∙ plain-merged false (components pattern)
    ∙ sym (ap (λ fault. is_none fault && are_plain false (components pattern)) faultless)
