-- Descending entries: each name is less than the names before it.
use Rattle.std.proofs.Common.{◌≡◌, ⊎_elim, Some, List, [], ◌∷◌, ◌++◌, map, ap, sym, subst, ◌∙◌}
use Rattle.std.specs.Prelude.{Contains}
use Rattle.std.specs.Borrow.{Bor}
use Rattle.std.specs.Cmp.{IsTotalOrder}
use Rattle.std.specs.Cmp.Lexicographic.{slice_cmp}
use Rattle.std.specs.List.{dedup}
use Rattle.std.specs.List.Sorted.{IsSortedBy, IsStrictlySortedBy}
use Rattle.std.specs.Option.{ForSome}
use Rattle.std.specs.Ordering.{nat_cmp}
use Rattle.std.specs.declared.cmp.Ordering.TheVariants.{Less}
use Rattle.std.proofs.lemmas.Cmp.{nat_list_cmp_total, nat_list_eq_equiv}
use Rattle.std.proofs.lemmas.List.{map-append}
use Rattle.std.proofs.lemmas.List.Elements.{All-contains, All-from_recursion, Contains-append_cases}
use Rattle.std.proofs.lemmas.List.Elements.{Contains-append_left, Contains-append_right}
use Rattle.std.proofs.lemmas.List.Kept.{IsStrictlySortedBy-dedup}
use Rattle.std.proofs.lemmas.Map.Text.{is_eq-slice_cmp}
use Rattle.std.proofs.lemmas.Option.{same_Some}
use Rattle.glob_text.specs.Text.{Text}
use Rattle.glob_tree.specs.declared.tree.Entry.{Entry}
use Rattle.glob_tree.proofs.ContentLemmas.Membership.{Contains-head, Contains-nil, Contains-tail}
use Rattle.glob_search.specs.Private.Listings.{AreFalling}
use Rattle.glob_search.proofs.EngineLemmas.Ordered.{falls, same_name}
use Rattle.glob_search.proofs.EngineLemmas.Rising.{IsLess, Rises, same-from_equal}
use Rattle.glob_search.proofs.OrderLemmas.Parts.{Contains-one}

-- comparing entries in descending order of names is a total order
down-total : {A : Type 0} → IsTotalOrder (λ (x y : Entry A). slice_cmp nat_cmp y.name x.name)
down-total = record {
  antisymm = λ x y. nat_list_cmp_total.antisymm y.name x.name;
  trans = λ x y z h k. nat_list_cmp_total.trans z.name y.name x.name k h;
  congr = λ x y z h. ap (slice_cmp nat_cmp z.name) (sym (same-from_equal y.name x.name h));
}

strict-falls : {A : Type 0} (es : List (Entry A)) → IsStrictlySortedBy (λ (x y : Entry A). slice_cmp nat_cmp y.name
    x.name) es → AreFalling es
unfolding IsStrictlySortedBy
strict-falls [] h = tt
strict-falls {A} (e ∷ es) h = (
  λ f in'. All-contains (λ (f : Entry A). slice_cmp nat_cmp f.name e.name ≡ Less) es f (All-from_recursion
      (λ (f : Entry A). slice_cmp nat_cmp f.name e.name ≡ Less) es h.0) in',
  strict-falls es h.1,
)

-- sorted in descending order, with each name kept once
pub falls-once : {A : Type 0} (sorted : List (Entry A)) → IsSortedBy falls sorted → AreFalling (dedup same_name sorted)
falls-once {A} sorted up = strict-falls (dedup same_name sorted)
    (IsStrictlySortedBy-dedup (down-total {A = A}) (λ x y. nat_list_eq_equiv.symm x.name y.name ∙ sym
    (is_eq-slice_cmp y.name x.name)) sorted up)

-- the last is less than the others
pub falls-before : {A : Type 0} (es : List (Entry A)) (e : Entry A) → AreFalling (es ++ e ∷ []) → AreFalling es ×
    ((f : Entry A) → Contains es f → IsLess e.name f.name)
falls-before [] e h = (tt, λ f in'. absurd (Contains-nil f in'))
falls-before {A} (x ∷ es) e h =
    let later = falls-before es e h.1 in
    let least : IsLess e.name x.name = h.0 e (Contains-append_right es (e ∷ []) e (Contains-head e [])) in (
      (λ f in'. h.0 f (Contains-append_left es (e ∷ []) f in'), later.0),
      λ f in'. ⊎_elim (λ here. subst (λ (g : Entry A). IsLess e.name g.name) (Contains-one x f here) least)
          (λ there. later.1 f there) (Contains-append_cases (x ∷ []) es f in'),
    )

pub falls-more : {A : Type 0} (es : List (Entry A)) (e : Entry A) → AreFalling es → ((f : Entry A) → Contains es f
    → IsLess e.name f.name) → AreFalling (es ++ e ∷ [])
falls-more [] e h less = (λ f in'. absurd (Contains-nil f in'), tt)
falls-more {A} (x ∷ es) e h less = (
  λ f in'. ⊎_elim (λ there. h.0 f there) (λ last. subst (λ (g : Entry A). IsLess g.name x.name) (Contains-one e f last)
      (less x (Contains-head x es))) (Contains-append_cases es (e ∷ []) f in'),
  falls-more es e h.1 (λ f in'. less f (Contains-tail x es f in')),
)

rises-before : (ns : List Text) (n : Text) → Rises (ns ++ n ∷ []) → Rises ns × ((m : Text) → Contains ns m → IsLess m n)
rises-before [] n h = (tt, λ m in'. absurd (Contains-nil m in'))
rises-before (x ∷ ns) n h =
    let later = rises-before ns n h.1 in
    let most : IsLess x n = h.0 n (Contains-append_right ns (n ∷ []) n (Contains-head n [])) in (
      (λ m in'. h.0 m (Contains-append_left ns (n ∷ []) m in'), later.0),
      λ m in'. ⊎_elim (λ here. subst (λ k. IsLess k n) (Contains-one x m here) most) (λ there. later.1 m there)
          (Contains-append_cases (x ∷ []) ns m in'),
    )

-- the names still to be looked up ascend, and come before the entries that were seen
pub record AreBefore {A : Type 0} (names : List Text) (entries : List (Entry A)) : Type 0 where
  pub rise : Rises names
  pub fall : AreFalling entries
  pub before : (n : Text) → Contains names n → (e : Entry A) → Contains entries e → IsLess n e.name

pub before-start : {A : Type 0} (names : List Text) (entries : List (Entry A)) → Rises names → entries ≡ [] → AreBefore names entries
before-start {A} names entries up none = subst (AreBefore {A = A} names) (sym none)
    (record { rise = up; fall = tt; before = λ n _ e in'. absurd (Contains-nil e in') })

texts-last : (names rest : List (Bor Text)) (name : Bor Text) → names ≡ rest ++ name ∷ [] → map (λ t. t.now) names ≡
    map (λ t. t.now) rest ++ name.now ∷ []
texts-last names rest name is = ap (map (λ (t : Bor Text). t.now)) is ∙ map-append (λ (t : Bor Text). t.now) rest (name ∷ [])

-- the last name is not there
pub before-none : {A : Type 0} (names rest : List (Bor Text)) (name : Bor Text) (entries : List (Entry A)) → names ≡ rest ++ name ∷ []
    → AreBefore (map (λ t. t.now) names) entries → AreBefore (map (λ t. t.now) rest) entries
before-none {A} names rest name entries is h =
    let now : List (Bor Text) → List Text = map (λ t. t.now) in
    let k = subst (λ ns. AreBefore ns entries) (texts-last names rest name is) h in
    record {
      rise = (rises-before (now rest) name.now k.rise).0;
      fall = h.fall;
      before = λ n in' e there. k.before n
          (Contains-append_left (now rest) (name.now ∷ []) n in') e there;
    }

-- the last name belongs to an entry
pub before-some : {A : Type 0} (names rest : List (Bor Text)) (name : Bor Text) (entries made : List (Entry A))
    (e : Entry A) → names ≡ rest ++ name ∷ [] → e.name ≡ name.now
    → made ≡ entries ++ e ∷ [] → AreBefore (map (λ t. t.now) names) entries → AreBefore (map (λ t. t.now) rest) made
before-some {A} names rest name entries made e is named more h =
    let now : List (Bor Text) → List Text = map (λ t. t.now) in
    let k = subst (λ ns. AreBefore ns entries) (texts-last names rest name is) h in
    let up = rises-before (now rest) name.now k.rise in
    let last : Contains (now rest ++ name.now ∷ []) name.now = Contains-append_right (now rest) (name.now ∷ [])
    name.now (Contains-head name.now []) in
    subst (AreBefore {A = A} (now rest)) (sym more) (record {
      rise = up.0;
      fall = falls-more entries e k.fall (λ f in'. subst (λ n. IsLess n f.name) (sym named) (k.before name.now last f in'));
      before = λ n in' f there. ⊎_elim
          (λ old. k.before n (Contains-append_left (now rest) (name.now ∷ []) n in') f old)
          (λ new. subst (λ (g : Entry A). IsLess n g.name) (Contains-one e f new) (subst (λ t. IsLess n t) (sym named) (up.1 n in')))
          (Contains-append_cases entries (e ∷ []) f there);
    })

pub some-named : {A : Type 0} (e : Entry A) (n : Text) → e.name ≡ n → ForSome (Some e) (λ (e : Entry A). e.name ≡ n)
some-named e n is = λ d h. ap (λ x. x.name) (sym (same_Some e d h)) ∙ is
