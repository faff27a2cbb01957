-- Names in groups, one for each component, are a split over the table of which component takes which name.
use Rattle.std.proofs.Common.{◌≡◌, ℕ, ◌+◌, ◌-◌, ◌<◌, ◌≤◌, ◌≢◌, ◌⊎◌, ◌↔◌, inl, inr, ⊎_elim, Bool, true, false}
use Rattle.std.proofs.Common.{if◌then◌else◌, List, [], ◌∷◌, ◌++◌, length, get_or, take, drop, map, IsTrue, refl, sym}
use Rattle.std.proofs.Common.{ap, subst, ◌∙◌, arith, drop-cons, Vec}
use Rattle.std.proofs.lemmas.Bool.{false≢true}
use Rattle.std.proofs.lemmas.List.{drop_all, drop-drop, take-append-drop, length-map, get_or-map}
use Rattle.std.proofs.lemmas.Slice.Eq.{bytes_eq-Decides}
use Rattle.std.specs.Str.{bytes_eq, chars}
use Rattle.glob.specs.Matching.Options.{new_options}
use Rattle.glob.specs.Matching.Texts.{Matches}
use Rattle.glob.specs.Matching.Splits.{Table, MayReach, TakesAll, SplitsFrom, Splits}
use Rattle.glob_pattern.specs.declared.matcher.Shape.{Shape}
use Rattle.glob_pattern.specs.declared.matcher.Shape.TheVariants.{One, Run}
use Rattle.glob_pattern.proofs.Places.{get_or-at_drop, drop-at_drop, length-at_drop, length-at_end, drop-after_piece}
use Rattle.glob_pattern.proofs.Places.{get_or-in_piece, length-after_piece}
use Rattle.glob_pattern.proofs.MatchingLemmas.Splits.{MayReach-le, SplitsFrom-within}
use Rattle.glob_examples.specs.Names.{any_names, StandsFor, NamesSplit}
use Rattle.glob_examples.specs.NameTable.{TakesName, shape_of, AreAligned, IsRow, table_of}

-- the table's characters are the names, and its tokens take what the components take
pub record KnowsNames (table : Table) (components names : List (List ℕ)) : Type 0 where
  pub count : table.characters ≡ length names
  pub takes : (n k : ℕ) → n < length components → k < length names →
      IsTrue (table.takes n k) ↔ TakesName (get_or components n []) (get_or names k [])

-- `**` has the shape `Run`, and any other component has the shape `One`
shape_of-cases : (component : List ℕ) → ((component ≡ any_names) × (shape_of component ≡ Run)) ⊎
    ((component ≢ any_names) × (shape_of component ≡ One))
shape_of-cases component = cases (bytes_eq component any_names) refl
  where
    cases : (b : Bool) → bytes_eq component any_names ≡ b → ((component ≡ any_names) × (shape_of component ≡ Run)) ⊎
        ((component ≢ any_names) × (shape_of component ≡ One))
    cases true e = inl ((bytes_eq-Decides component any_names).0 e, ap (λ b. if b then Run else One) e)
    cases false e = inr ((λ same. false≢true (sym e ∙ (bytes_eq-Decides component any_names).1 same)), ap (λ b. if b then Run else One) e)

-- a component takes each name of a group that it matches
TakesName-in_group : (component : List ℕ) (group : List (List ℕ)) → StandsFor component group → (i : ℕ) →
    i < length group → TakesName component (get_or group i [])
TakesName-in_group component group (inl same) i below = inl same
TakesName-in_group component group (inr (name, e, matches)) i below =
    let one : length group ≡ 1 = ap length e in
    let first : i ≡ 0 = omega arith in
    let is : get_or group i [] ≡ name = ap (λ names. get_or names i []) e ∙ ap (λ k. get_or (name ∷ []) k []) first in
    inr (subst (λ x. Matches new_options (chars component) (chars x)) (sym is) matches)

-- A group that a component matches has a size that its shape allows.
MayReach-over_group : (table : Table) (component : List ℕ) (others : List Shape) (group : List (List ℕ)) (k : ℕ) →
    StandsFor component group → MayReach table (shape_of component) others k (k + length group)
MayReach-over_group table component others group k stands =
    ⊎_elim
    (λ (any : (component ≡ any_names) × (shape_of component ≡ Run)). subst
    (λ shape. MayReach table shape others k (k + length group)) (sym any.1) (omega arith))
    (λ (other : (component ≢ any_names) × (shape_of component ≡ One)). subst
    (λ shape. MayReach table shape others k (k + length group)) (sym other.1) (one other.0 stands))
    (shape_of-cases component)
  where
    one : component ≢ any_names → StandsFor component group → k + length group ≡ k + 1
    one ne (inl same) = absurd (ne same)
    one ne (inr (name, e, matches)) = ap (λ names. k + length names) e

-- groups that make up the names from place k on split them from there
SplitsFrom-from_NamesSplit : (table : Table) (components names : List (List ℕ)) → KnowsNames table components names →
    (rest : List (List ℕ)) (n k : ℕ) → drop n components ≡ rest → k ≤ length names → NamesSplit rest (drop k names) →
    SplitsFrom table n (map shape_of rest) k
SplitsFrom-from_NamesSplit table components names knows [] n k e within h = length-at_end names k h within ∙ sym knows.count
SplitsFrom-from_NamesSplit table components names knows (component ∷ rest) n k e within (group, others, split, stands, later) =
    let end : k + length group ≤ length names = length-after_piece names group others k split within in (
      k + length group,
      MayReach-over_group table component (map shape_of rest) group k stands,
      took end,
      SplitsFrom-from_NamesSplit table components names knows rest (n + 1) (k + length group)
          (drop-at_drop components rest n component e) end
          (subst (NamesSplit rest) (sym (drop-after_piece names group others k split)) later),
    )
  where
    took : k + length group ≤ length names → TakesAll table n k (k + length group)
    took end q low high =
        let i : ℕ = q - k in
        let at : k + i ≡ q = omega arith in
        let name : get_or names q [] ≡ get_or group i [] = ap (λ p. get_or names p []) (sym at) ∙
        get_or-in_piece names group others k i [] split (omega arith) in
        let some : n < length components = omega (arith, length-at_drop components rest n component e) in
        (knows.takes n q some (omega arith)).1
        (subst (λ c. TakesName c (get_or names q [])) (sym (get_or-at_drop components rest n component [] e))
        (subst (TakesName component) (sym name) (TakesName-in_group component group stands i (omega arith))))

-- the names from place k up to place j
group_up_to : (names : List (List ℕ)) (k j : ℕ) → k ≤ j → drop k names ≡ take (j - k) (drop k names) ++ drop j names
group_up_to names k j low =
    let at : k + (j - k) ≡ j = omega arith in
    sym (take-append-drop (j - k) (drop k names)) ∙ ap (λ zs. take (j - k) (drop k names) ++ zs)
    (drop-drop (j - k) k names ∙ ap (λ p. drop p names) at)

-- a group of one name
group_of_one : (names : List (List ℕ)) (k j : ℕ) → j ≡ k + 1 → k < length names → take (j - k) (drop k names) ≡ get_or names k [] ∷ []
group_of_one names k j e below =
    let one : j - k ≡ 1 = omega arith in
    ap (λ m. take m (drop k names)) one ∙ ap (take 1) (drop-cons names k [] below)

-- a component matches the names that its token takes, in a number that its shape allows
StandsFor-from_reach : (table : Table) (components names : List (List ℕ)) → KnowsNames table components names →
    (component : List ℕ) (rest : List (List ℕ)) (n k j : ℕ) → drop n components ≡ component ∷ rest → j ≤ length names →
    MayReach table (shape_of component) (map shape_of rest) k j → TakesAll table n k j → StandsFor component (take (j - k) (drop k names))
StandsFor-from_reach table components names knows component rest n k j e high reach took =
    ⊎_elim
    (λ (any : (component ≡ any_names) × (shape_of component ≡ Run)). inl any.0)
    (λ (other : (component ≢ any_names) × (shape_of component ≡ One)).
    one (subst (λ shape. MayReach table shape (map shape_of rest) k j) other.1 reach))
    (shape_of-cases component)
  where
    one : j ≡ k + 1 → StandsFor component (take (j - k) (drop k names))
    one next =
        let some : n < length components = omega (arith, length-at_drop components rest n component e) in
        let taken : TakesName (get_or components n []) (get_or names k []) =
        (knows.takes n k some (omega arith)).0 (took k (omega arith) (omega arith)) in
        ⊎_elim (λ same. inl same) (λ matches. inr (get_or names k [], group_of_one names k j next (omega arith), matches))
        (subst (λ c. TakesName c (get_or names k [])) (get_or-at_drop components rest n component [] e) taken)

-- a split from place k on gives groups from there
NamesSplit-from_SplitsFrom : (table : Table) (components names : List (List ℕ)) → KnowsNames table components names →
    (rest : List (List ℕ)) (n k : ℕ) → drop n components ≡ rest → SplitsFrom table n (map shape_of rest) k → NamesSplit rest (drop k names)
NamesSplit-from_SplitsFrom table components names knows [] n k e h = drop_all k names (omega (arith, knows.count))
NamesSplit-from_SplitsFrom table components names knows (component ∷ rest) n k e (j, reach, took, later) =
    let low : k ≤ j = MayReach-le table (shape_of component) (map shape_of rest) k j reach in
    let high : j ≤ length names = omega (arith, SplitsFrom-within table (n + 1) (map shape_of rest) j later, knows.count) in (
      take (j - k) (drop k names),
      drop j names,
      group_up_to names k j low,
      StandsFor-from_reach table components names knows component rest n k j e high reach took,
      NamesSplit-from_SplitsFrom table components names knows rest (n + 1) j (drop-at_drop components rest n component e) later,
    )

-- over such a table the shapes of the components split the names exactly when the components do
pub Splits-iff_NamesSplit : (table : Table) (components names : List (List ℕ)) → KnowsNames table components names →
    Splits table (map shape_of components) ↔ NamesSplit components names
Splits-iff_NamesSplit table components names knows = (
  NamesSplit-from_SplitsFrom table components names knows components 0 0 refl,
  SplitsFrom-from_NamesSplit table components names knows components 0 0 refl (omega arith),
)

-- the table of rows that say which components take which names
pub KnowsNames-from_rows : {Z : Type 0} (components names : List (List ℕ)) (rows : List (Vec Bool Z)) →
    AreAligned (λ name row. IsRow components name row.items) names rows →
    KnowsNames (table_of (length components) (map (λ row. row.items) rows)) components names
unfolding table_of
KnowsNames-from_rows components names [] aligned = record {
  count = aligned.count;
  takes = λ n k some below. absurd (omega (arith, aligned.count));
}
KnowsNames-from_rows components names (first ∷ rows) aligned = record {
  count = length-map (first ∷ rows) (λ row. row.items) ∙ aligned.count;
  takes = λ n k some below. rw (get_or-map (λ row. row.items) (first ∷ rows) k first [] (omega (arith, aligned.count)))
      ((aligned.each k [] first below).each n [] false some);
}

-- the answer for a judge's table is the answer for the names of its rows
pub NamesSplit-by_table : {Z : Type 0} {answer : Bool} (components names : List (List ℕ)) (rows : List (Vec Bool Z)) →
    AreAligned (λ name row. IsRow components name row.items) names rows
    → (count : ℕ) (asked : List (Vec Bool Z)) (shapes : List Shape) → count ≡ length components → asked ≡ rows →
    shapes ≡ map shape_of components
    → IsTrue answer ↔ Splits (table_of count (map (λ row. row.items) asked)) shapes
    → IsTrue answer ↔ NamesSplit components names
NamesSplit-by_table {answer = answer} components names rows aligned count asked shapes same_count same_rows same_shapes decided =
    let moved : IsTrue answer ↔ Splits (table_of (length components) (map (λ row. row.items) rows)) (map shape_of components) =
    rw (← same_count, ← same_rows, ← same_shapes) decided in
    let split = Splits-iff_NamesSplit (table_of (length components) (map (λ row. row.items) rows)) components names
    (KnowsNames-from_rows components names rows aligned) in
    (λ h. split.0 (moved.0 h), λ h. moved.1 (split.1 h))
