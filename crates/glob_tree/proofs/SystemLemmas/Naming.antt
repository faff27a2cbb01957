-- The entries of names, one after another.
use Rattle.std.proofs.Common.{◌≡◌, ℕ, ◌+◌, ◌<◌, Bool, true, false, not, cond, ◌&&◌, ⊎_elim, List, [], ◌∷◌, ◌++◌, length}
use Rattle.std.proofs.Common.{map, take, refl, ap, sym, ◌∙◌}
use Rattle.std.specs.Prelude.{Contains, slice_index_or}
use Rattle.std.specs.Str.{IsUtf8, is_utf8}
use Rattle.std.specs.Borrow.{Bor}
use Rattle.std.specs.List.{list_all}
use Rattle.std.proofs.lemmas.Bool.{and_parts, both_ways}
use Rattle.std.proofs.lemmas.Str.{IsUtf8-from_is_utf8, is_utf8-from_IsUtf8}
use Rattle.std.proofs.lemmas.List.{get_or_default, take_more, map-append}
use Rattle.glob_text.specs.Text.{Text}
use Rattle.glob_tree.specs.Answers.{entries_of, names_of}
use Rattle.glob_tree.specs.Paths.{is_proper}
use Rattle.glob_tree.specs.Private.Listing.{said_entry, said_entries, is_text_name, are_text_names, are_names_taken}
use Rattle.glob_tree.specs.Private.Listing.{IsNameError, IsStrayError}
use Rattle.glob_tree.specs.Strays.{texts_of, strays_of}
use Rattle.glob_tree.specs.declared.tree.Entry.{Entry}
use Rattle.glob_tree.specs.declared.tree.ListError.{ListError}
use Rattle.glob_tree.specs.declared.tree.ListError.TheVariants.{Read, Memory}
use Rattle.glob_tree.proofs.ContentLemmas.Membership.{Contains-head, Contains-tail, Contains-cases, Contains-nil, list_all-contains}
use Rattle.glob_tree.proofs.StraysLemmas.{names_more, text_listed, text_no_stray, stray_left_out, stray_received}

contains_text : (names : List (Bor Text)) (name : Bor Text) → Contains names name → Contains (map (λ n. n.now) names) name.now
contains_text [] name in' = absurd (Contains-nil name in')
contains_text (n ∷ names) name in' = ⊎_elim
    (λ same. ap_head n names name same)
    (λ later. Contains-tail n.now (map (λ m. m.now) names) name.now (contains_text names name later))
    (Contains-cases n names name in')
  where
    ap_head : (n : Bor Text) (names : List (Bor Text)) (name : Bor Text) → n ≡ name → Contains (map (λ m. m.now) (n ∷ names)) name.now
    ap_head n names name same = rw (sym same) (Contains-head n.now (map (λ m. m.now) names))

-- if all UTF-8 names are proper, each UTF-8 name is
text_in : (names : List Text) (name : Text) → list_all is_text_name (texts_of names) ≡ true → Contains names name → is_utf8 name ≡ true
    → is_text_name name ≡ true
text_in [] name all in' utf8 = absurd (Contains-nil name in')
text_in (n ∷ names) name all in' utf8 = by_test (is_utf8 n) refl all (λ all later. text_in names name all later utf8)
  where
    by_test : (b : Bool) → is_utf8 n ≡ b → list_all is_text_name (cond b (n ∷ texts_of names) (texts_of names)) ≡ true
        → (list_all is_text_name (texts_of names) ≡ true → Contains names name → is_text_name name ≡ true) → is_text_name name ≡ true
    by_test true is all further =
        let parts = and_parts (is_text_name n) (list_all is_text_name (texts_of names)) all in
        ⊎_elim (λ same. ap is_text_name (sym same) ∙ parts.0) (λ later. further parts.1 later) (Contains-cases n names name in')
    by_test false is all further =
        ⊎_elim (λ same. absurd (both_ways (is_utf8 n) is (ap is_utf8 same ∙ utf8))) (λ later. further all later)
        (Contains-cases n names name in')

and_left : (a b : Bool) → a ≡ false → (a && b) ≡ false
and_left true b h = h_of b h
  where
    h_of : (b : Bool) → true ≡ false → b ≡ false
    h_of true h = h
    h_of false h = refl
and_left false b h = refl

-- bytes that are not UTF-8 are not a name
pub no_text_name : (bytes : Text) → (IsUtf8 bytes → ⊥) → is_text_name bytes ≡ false
no_text_name bytes none = and_left (is_utf8 bytes) (is_proper bytes) (by_test (is_utf8 bytes) refl)
  where
    by_test : (b : Bool) → is_utf8 bytes ≡ b → is_utf8 bytes ≡ false
    by_test true is = absurd (none (IsUtf8-from_is_utf8 bytes is))
    by_test false is = is

pub texts_same : (names : List Text) → are_text_names names ≡ true → texts_of names ≡ names
unfolding are_text_names
texts_same [] all = refl
texts_same (n ∷ names) all =
    let both = and_parts (is_text_name n) (list_all is_text_name names) all in
    let text = (and_parts (is_utf8 n) (is_proper n) both.0).0 in
    ap (λ b. cond b (n ∷ texts_of names) (texts_of names)) text ∙ ap (λ ns. n ∷ ns) (texts_same names both.1)

pub no_strays : (names : List Text) → are_text_names names ≡ true → strays_of names ≡ []
unfolding are_text_names
no_strays [] all = refl
no_strays (n ∷ names) all =
    let both = and_parts (is_text_name n) (list_all is_text_name names) all in
    let text = (and_parts (is_utf8 n) (is_proper n) both.0).0 in
    ap (λ b. cond (not b) (n ∷ strays_of names) (strays_of names)) text ∙ no_strays names both.1

module _ (names : List (Bor Text)) (i : ℕ) (d : Bor Text) (within : i < length names) where
  -- the names, and one more
  names_next : map (λ n. n.now) (take (i + 1) names) ≡ map (λ n. n.now) (take i names) ++ (slice_index_or names i d).now ∷ []
  names_next =
      ap (map (λ (n : Bor Text). n.now)) (take_more names i d within)
      ∙ map-append (λ (n : Bor Text). n.now) (take i names) (slice_index_or names i d ∷ [])

  -- if all are UTF-8 and proper, each is
  pub text_at : are_text_names (map (λ n. n.now) names) ≡ true → is_text_name (slice_index_or names i d).now ≡ true
  unfolding are_text_names
  text_at all =
      list_all-contains is_text_name (map (λ n. n.now) names) (slice_index_or names i d).now all
      (contains_text names (slice_index_or names i d) (i, within, get_or_default names i (slice_index_or names i d) d within))

  -- the error of one name is an error of the whole listing
  pub name_fault : (e : ListError) → IsNameError (is_text_name (slice_index_or names i d).now) e
      → IsNameError (are_text_names (map (λ n. n.now) names)) e
  name_fault (Read x) (none, kind) = (by_test (are_text_names (map (λ (n : Bor Text). n.now) names)) refl, kind)
    where
      by_test : (b : Bool) → are_text_names (map (λ (n : Bor Text). n.now) names) ≡ b
          → are_text_names (map (λ (n : Bor Text). n.now) names) ≡ false
      by_test true all = absurd (both_ways (is_text_name (slice_index_or names i d).now) none (text_at all))
      by_test false none = none
  name_fault Memory of = tt

  -- the same, among names that are not UTF-8
  pub text_fault : (e : ListError) (name : Text) → name ≡ (slice_index_or names i d).now → IsUtf8 (slice_index_or names i d).now
      → IsNameError (is_proper name) e
      → IsNameError (are_text_names (texts_of (map (λ n. n.now) names))) e
  unfolding are_text_names
  text_fault (Read x) name same utf8 (none, kind) = (by_test (are_text_names (texts_of (map (λ (n : Bor Text). n.now) names))) refl, kind)
    where
      item : Text
      item = (slice_index_or names i d).now

      proper : are_text_names (texts_of (map (λ (n : Bor Text). n.now) names)) ≡ true → is_proper name ≡ true
      proper all =
          ap is_proper same
          ∙ (and_parts (is_utf8 item) (is_proper item)
          (text_in (map (λ (n : Bor Text). n.now) names) item all
          (contains_text names (slice_index_or names i d) (i, within, get_or_default names i (slice_index_or names i d) d within))
          (is_utf8-from_IsUtf8 item utf8))).1

      by_test : (b : Bool) → are_text_names (texts_of (map (λ (n : Bor Text). n.now) names)) ≡ b
          → are_text_names (texts_of (map (λ (n : Bor Text). n.now) names)) ≡ false
      by_test true all = absurd (both_ways (is_proper name) none (proper all))
      by_test false none = none
  text_fault Memory name same utf8 of = tt

  -- the same, for the names that are not received
  pub taken_fault : (receives : Bool) (e : ListError) (name : Text) → name ≡ (slice_index_or names i d).now
      → IsUtf8 (slice_index_or names i d).now → IsNameError (is_proper name) e
      → IsNameError (are_names_taken receives (map (λ n. n.now) names)) e
  taken_fault receives e name same utf8 is = by_receives receives e (text_fault e name same utf8 is)
    where
      all : List Text
      all = map (λ (n : Bor Text). n.now) names

      by_test : (b : Bool) → are_text_names all ≡ b → are_text_names (texts_of all) ≡ false → are_text_names all ≡ false
      by_test true is none = absurd (both_ways (are_text_names all) (ap are_text_names (sym (texts_same all is)) ∙ none) is)
      by_test false is none = is

      by_receives : (receives : Bool) (e : ListError) → IsNameError (are_text_names (texts_of all)) e
          → IsNameError (are_names_taken receives all) e
      by_receives true e is = is
      by_receives false (Read x) (none, kind) = (by_test (are_text_names all) refl none, kind)
      by_receives false Memory is = tt

  -- the error for a non-UTF-8 name that is not received
  pub stray_fault : (receives : Bool) (e : ListError) → (IsUtf8 (slice_index_or names i d).now → ⊥) → IsStrayError receives e
      → IsNameError (are_names_taken receives (map (λ n. n.now) names)) e
  stray_fault true (Read x) none (is, kind) = absurd (both_ways true is refl)
  stray_fault false (Read x) none (is, kind) = name_fault (Read x) (no_text_name (slice_index_or names i d).now none, kind)
  stray_fault receives Memory none is = tt

  -- one more UTF-8 name adds its name to the listing
  pub text_next : {A : Type 0} (entries : List (Entry A)) (entry : Entry A) → names_of (entries_of entries) ≡ texts_of
      (map (λ n. n.now) (take i names)) → entry.name ≡ (slice_index_or names i d).now
      → IsUtf8 (slice_index_or names i d).now → names_of (entries_of (entries ++ entry ∷ [])) ≡ texts_of
      (map (λ n. n.now) (take (i + 1) names))
  text_next entries entry so_far is utf8 =
      names_more entries entry
      ∙ (λ j. so_far j ++ is j ∷ [])
      ∙ sym (ap texts_of names_next ∙ text_listed (map (λ (n : Bor Text). n.now) (take i names)) (slice_index_or names i d).now utf8)

  -- one more UTF-8 name adds its entry
  pub text_said : {A : Type 0} (said : Text → Text → Bool) (path at : Text) → at ≡ path
      → (entries : List (Entry A)) (entry : Entry A) (name : Text)
      → entries_of entries ≡ said_entries (said path) (texts_of (map (λ n. n.now) (take i names))) → entry.name ≡ name
      → name ≡ (slice_index_or names i d).now
      → IsUtf8 (slice_index_or names i d).now → entry.is_dir ≡ said at name
      → entries_of (entries ++ entry ∷ []) ≡ said_entries (said path) (texts_of (map (λ n. n.now) (take (i + 1) names)))
  unfolding said_entries
  text_said {A} said path at same entries entry name so_far is this utf8 kind =
      map-append (λ (e : Entry A). (e.name, e.is_dir)) entries (entry ∷ [])
      ∙ (λ j. so_far j ++ ((is ∙ this) j, (kind ∙ ap (λ p. said p name) same ∙ ap (said path) this) j) ∷ [])
      ∙ sym (ap (map (said_entry (said path)))
      (ap texts_of names_next ∙ text_listed (map (λ (n : Bor Text). n.now) (take i names)) (slice_index_or names i d).now utf8)
      ∙ map-append (said_entry (said path)) (texts_of (map (λ (n : Bor Text). n.now) (take i names))) ((slice_index_or names i d).now ∷ []))

  -- a UTF-8 name adds no stray, any other name adds one
  pub no_stray_next : IsUtf8 (slice_index_or names i d).now → strays_of (map (λ n. n.now) (take (i + 1) names)) ≡
      strays_of (map (λ n. n.now) (take i names))
  no_stray_next utf8 = ap strays_of names_next ∙ text_no_stray (map (λ (n : Bor Text). n.now) (take i names))
      (slice_index_or names i d).now utf8

  pub stray_next : (IsUtf8 (slice_index_or names i d).now → ⊥) → strays_of (map (λ n. n.now) (take (i + 1) names)) ≡
      strays_of (map (λ n. n.now) (take i names)) ++ (slice_index_or names i d).now ∷ []
  stray_next none = ap strays_of names_next ∙ stray_received (map (λ (n : Bor Text). n.now) (take i names))
      (slice_index_or names i d).now none

  pub no_text_next : (IsUtf8 (slice_index_or names i d).now → ⊥) → texts_of (map (λ n. n.now) (take (i + 1) names)) ≡
      texts_of (map (λ n. n.now) (take i names))
  no_text_next none = ap texts_of names_next ∙ stray_left_out (map (λ (n : Bor Text). n.now) (take i names))
      (slice_index_or names i d).now none

-- no names make no entries
pub said_none : (said : Text → Bool) → said_entries said [] ≡ []
unfolding said_entries
said_none said = refl
