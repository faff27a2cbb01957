-- Which names components take, one component or one name at a time.
use Rattle.std.proofs.Common.{◌≡◌, ◌⊎◌, inl, inr, ⊎_elim, Bool, true, false, ◌&&◌, ◌||◌, List, [], ◌∷◌, refl, sym, ap, ◌∙◌}
use Rattle.std.proofs.lemmas.Bool.{false≢true, and_parts, and_from, or_left, or_right, or_cases}
use Rattle.glob_text.specs.Text.{Text}
use Rattle.glob_tree.specs.Content.{Key}
use Rattle.glob_walk.specs.Components.{is_recursive}
use Rattle.glob_walk.specs.Goal.{walk_takes, walk_takes_name}
use Rattle.glob_pattern.specs.Matching.Components.{is_open}
use Rattle.glob_pattern.specs.declared.options.MatchOptions.{MatchOptions}

-- one component other than `**`
pub takes-one : (o : MatchOptions) (a : Bool) (t : Text) (ts : List Text) (n : Text) (ns : Key) → is_recursive t ≡ false
    → walk_takes o a (t ∷ ts) (n ∷ ns) ≡ (walk_takes_name o a t n && walk_takes o false ts ns)
takes-one o a t ts n ns e = rw e refl

-- a `**` takes no name, or one and then perhaps more
pub takes-run : (o : MatchOptions) (a : Bool) (t : Text) (ts : List Text) (n : Text) (ns : Key) → is_recursive t ≡ true
    → walk_takes o a (t ∷ ts) (n ∷ ns)
    ≡ (walk_takes o true ts (n ∷ ns) || (is_open o n && (walk_takes o a (t ∷ ts) ns || walk_takes o true ts ns)))
takes-run o a t ts n ns e = rw e refl

-- no component takes no name
pub takes-none : (o : MatchOptions) (a : Bool) (t : Text) (ts : List Text) → walk_takes o a (t ∷ ts) [] ≡ true → ⊥
takes-none o a t ts h = false≢true h

-- a `**` does not depend on what is before it
pub takes-any : (o : MatchOptions) (a b : Bool) (t : Text) (ts : List Text) (names : Key) → is_recursive t ≡ true
    → walk_takes o a (t ∷ ts) names ≡ walk_takes o b (t ∷ ts) names
takes-any o a b t ts [] r = refl
takes-any o a b t ts (n ∷ ns) r =
    takes-run o a t ts n ns r
    ∙ ap (λ x. walk_takes o true ts (n ∷ ns) || (is_open o n && (x || walk_takes o true ts ns))) (takes-any o a b t ts ns r)
    ∙ sym (takes-run o b t ts n ns r)

-- the last name that a `**` meets
abbrev pub MetBy : MatchOptions → List Text → Text → Key → Type 0
MetBy o [] name names = (names ≡ []) × (is_open o name ≡ true)
MetBy o (t ∷ ts) name names = walk_takes o true (t ∷ ts) (name ∷ names) ≡ true

module _ (o : MatchOptions) (a : Bool) where
  abbrev takes : List Text → Key → Bool
  takes ts names = walk_takes o a ts names

  pub run-enter : (t : Text) (ts : List Text) (n : Text) (ns : Key) → is_recursive t ≡ true → is_open o n ≡ true
      → takes (t ∷ ts) ns ≡ true → takes (t ∷ ts) (n ∷ ns) ≡ true
  run-enter t ts n ns r open' h =
      takes-run o a t ts n ns r ∙ or_right (walk_takes o true ts (n ∷ ns)) _
      (and_from (is_open o n) _ open' (or_left (takes (t ∷ ts) ns) (walk_takes o true ts ns) h))

  -- after one name, the components after the `**` take the rest
  one_more : (t : Text) (ts : List Text) (n : Text) (ns : Key) → is_recursive t ≡ true → is_open o n ≡ true
      → walk_takes o true ts ns ≡ true → MetBy o ts n ns ⊎ (is_open o n ≡ true) × (takes (t ∷ ts) ns ≡ true)
  one_more t [] n [] r open' h = inl (refl, open')
  one_more t [] n (m ∷ ms) r open' h = absurd (false≢true h)
  one_more t (u ∷ us) n [] r open' h = absurd (false≢true h)
  one_more t (u ∷ us) n (m ∷ ms) r open' h =
      inr (open', takes-run o a t (u ∷ us) m ms r ∙ or_left (walk_takes o true (u ∷ us) (m ∷ ms)) _ h)

  met_first : (ts : List Text) (n : Text) (ns : Key) → walk_takes o true ts (n ∷ ns) ≡ true → MetBy o ts n ns
  met_first [] n ns h = absurd (false≢true h)
  met_first (u ∷ us) n ns h = h

  pub run-cases : (t : Text) (ts : List Text) (n : Text) (ns : Key) → is_recursive t ≡ true → takes (t ∷ ts) (n ∷ ns) ≡ true
      → MetBy o ts n ns ⊎ (is_open o n ≡ true) × (takes (t ∷ ts) ns ≡ true)
  run-cases t ts n ns r h =
      let further = walk_takes o true ts ns in
      ⊎_elim (λ first. inl (met_first ts n ns first))
      (λ on. let both = and_parts (is_open o n) (takes (t ∷ ts) ns || further) on in
      ⊎_elim (λ more. inr (both.0, more)) (λ rest. one_more t ts n ns r both.0 rest)
      (or_cases (takes (t ∷ ts) ns) further both.1))
      (or_cases (walk_takes o true ts (n ∷ ns)) _ (sym (takes-run o a t ts n ns r) ∙ h))

  pub run-met : (t : Text) (ts : List Text) (n : Text) (ns : Key) → is_recursive t ≡ true → MetBy o ts n ns → takes (t ∷ ts) (n ∷ ns) ≡ true
  run-met t [] n ns r (e, open') =
      ap (λ ms. takes (t ∷ []) (n ∷ ms)) e ∙ takes-run o a t [] n [] r ∙ and_from (is_open o n) true open' refl
  run-met t (u ∷ us) n ns r met = takes-run o a t (u ∷ us) n ns r ∙ or_left (walk_takes o true (u ∷ us) (n ∷ ns)) _ met

-- adjacent `**` count as one
pub run-run : (o : MatchOptions) (a : Bool) (t u : Text) (us : List Text) (names : Key) → is_recursive t ≡ true → is_recursive u ≡ true
    → walk_takes o a (t ∷ u ∷ us) names ≡ true → walk_takes o a (u ∷ us) names ≡ true
run-run o a t u us [] r q h = absurd (takes-none o a t (u ∷ us) h)
run-run o a t u us (n ∷ ns) r q h =
    ⊎_elim (λ here. takes-any o a true u us (n ∷ ns) q ∙ here)
    (λ on. run-enter o a u us n ns q on.0 (run-run o a t u us ns r q on.1))
    (run-cases o a t (u ∷ us) n ns r h)

pub run-from_first_recursive : (o : MatchOptions) (a : Bool) (t u : Text) (us : List Text) (names : Key) → is_recursive
    t ≡ true → is_recursive u ≡ true
    → walk_takes o a (u ∷ us) names ≡ true → walk_takes o a (t ∷ u ∷ us) names ≡ true
run-from_first_recursive o a t u us [] r q h = absurd (takes-none o a u us h)
run-from_first_recursive o a t u us (n ∷ ns) r q h =
    takes-run o a t (u ∷ us) n ns r ∙ or_left (walk_takes o true (u ∷ us) (n ∷ ns)) _ (takes-any o true a u us (n ∷ ns) q ∙ h)
