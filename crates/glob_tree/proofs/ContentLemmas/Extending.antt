-- A well-formed content with one more key is well formed.
use Rattle.std.proofs.Common.{◌≡◌, ◌≢◌, true, false, not, ◌&&◌, ◌||◌, List, [], ◌∷◌, ◌++◌, Option, Some, None, refl, ap, sym, ◌∙◌}
use Rattle.std.specs.Prelude.{Contains, find, option_map, unwrap_or}
use Rattle.std.specs.Option.{option_or}
use Rattle.std.specs.List.{list_any, list_all}
use Rattle.std.specs.Str.{is_utf8}
use Rattle.std.proofs.lemmas.Bool.{and_parts, and_from, not_from_false, not-true, both_ways, false_from_ne_true, or_from}
use Rattle.std.proofs.lemmas.List.Folds.{find-append, list_all-append, list_any-append}
use Rattle.std.proofs.lemmas.Option.{none-some}
use Rattle.glob_text.specs.Text.{Text}
use Rattle.glob_tree.specs.Paths.{is_proper}
use Rattle.glob_tree.specs.Content.{Content, Key, same_key, parent_key, kind_at, is_dir, is_dir_at, is_placed, are_distinct, is_content}
use Rattle.glob_tree.specs.declared.kind.Kind.{Kind}
use Rattle.glob_tree.proofs.ContentLemmas.Membership.{Contains-head, Contains-tail, list_all-contains}
use Rattle.glob_tree.proofs.ContentLemmas.Contents.{IsContent, same_key-Decides, kind_at-entry, contains_kind_at, parent_key-append}

-- the content with one more entry
abbrev pub extended_content : Content → Key × Kind → Content
extended_content c e = record { kinds = c.kinds ++ e ∷ []; current = c.current }

kind_at-extended : (c : Content) (e : Key × Kind) (k : Key) → kind_at (extended_content c e) k ≡ option_map (λ f. f.1)
    (option_or (find (λ f. same_key k f.0) c.kinds) (find (λ f. same_key k f.0) (e ∷ [])))
unfolding kind_at
kind_at-extended c e k = ap (option_map (λ f. f.1)) (find-append (λ f. same_key k f.0) c.kinds (e ∷ []))

-- what is at a key stays there
pub kind_at_kept : (c : Content) (e : Key × Kind) (k : Key) (kind : Kind) → kind_at c k ≡ Some kind → kind_at
    (extended_content c e) k ≡ Some kind
unfolding kind_at
kind_at_kept c e k kind h = kind_at-extended c e k ∙ kept (find (λ f. same_key k f.0) c.kinds) h
  where
    kept : (o : Option (Key × Kind)) → option_map (λ f. f.1) o ≡ Some kind → option_map (λ f. f.1)
        (option_or o (find (λ f. same_key k f.0) (e ∷ []))) ≡ Some kind
    kept None h = absurd (none-some kind h)
    kept (Some f) h = h

pub is_dir_at_kept : (c : Content) (e : Key × Kind) (k : Key) → is_dir_at c k ≡ true → is_dir_at (extended_content c e) k ≡ true
is_dir_at_kept c e k h = of_kind (kind_at c k) refl h
  where
    of_kind : (o : Option Kind) → kind_at c k ≡ o → unwrap_or (option_map is_dir o) false ≡ true → is_dir_at (extended_content c e) k ≡ true
    of_kind None is h = absurd (both_ways false refl h)
    of_kind (Some kind) is h = rw (kind_at_kept c e k kind is) h

is_placed_kept : (c : Content) (e f : Key × Kind) → is_placed c f ≡ true → is_placed (extended_content c e) f ≡ true
is_placed_kept c e f h =
    let both = and_parts (list_all (λ name. is_utf8 name && is_proper name) f.0) (is_dir_at c (parent_key f.0)) h in
    and_from (list_all (λ name. is_utf8 name && is_proper name) f.0) (is_dir_at (extended_content c e)
    (parent_key f.0)) both.0 (is_dir_at_kept c e (parent_key f.0) both.1)

all_placed : (c : Content) (e : Key × Kind) (es : List (Key × Kind)) → list_all (is_placed c) es ≡ true → list_all
    (is_placed (extended_content c e)) es ≡ true
all_placed c e [] h = refl
all_placed c e (f ∷ es) h =
    let both = and_parts (is_placed c f) (list_all (is_placed c) es) h in
    and_from (is_placed (extended_content c e) f) (list_all (is_placed (extended_content c e)) es)
    (is_placed_kept c e f both.0) (all_placed c e es both.1)

are_distinct-push : (es : List (Key × Kind)) (e : Key × Kind) → are_distinct es ≡ true → ((f : Key × Kind)
    → Contains es f → f.0 ≢ e.0) → are_distinct (es ++ e ∷ []) ≡ true
are_distinct-push [] e h apart = refl
are_distinct-push (f ∷ es) e h apart =
    let both = and_parts (not (list_any (λ g. same_key f.0 g.0) es)) (are_distinct es) h in
    let other : same_key f.0 e.0 ≡ false = false_from_ne_true (same_key f.0 e.0) (λ t. apart f (Contains-head f es)
    ((same_key-Decides f.0 e.0).0 t)) in
    let none : list_any (λ g. same_key f.0 g.0) (es ++ e ∷ []) ≡ false =
    list_any-append (λ g. same_key f.0 g.0) es (e ∷ []) ∙ or_from (list_any (λ g. same_key f.0 g.0) es) (same_key f.0 e.0 || false)
    (not-true (list_any (λ g. same_key f.0 g.0) es) both.0) (or_from (same_key f.0 e.0) false other refl) in
    and_from (not (list_any (λ g. same_key f.0 g.0) (es ++ e ∷ []))) (are_distinct (es ++ e ∷ []))
    (not_from_false (list_any (λ g. same_key f.0 g.0) (es ++ e ∷ [])) none)
    (are_distinct-push es e both.1 (λ g in'. apart g (Contains-tail f es g in')))

-- the names of a directory's key are UTF-8 and proper
pub names_at : (c : Content) → IsContent c → (k : Key) → is_dir_at c k ≡ true → list_all (λ name. is_utf8 name && is_proper name) k ≡ true
names_at c w k h = of_kind (kind_at c k) refl h
  where
    of_kind : (o : Option Kind) → kind_at c k ≡ o → unwrap_or (option_map is_dir o) false ≡ true → list_all
        (λ name. is_utf8 name && is_proper name) k ≡ true
    of_kind None is h = absurd (both_ways false refl h)
    of_kind (Some kind) is h = (and_parts (list_all (λ name. is_utf8 name && is_proper name) k)
        (is_dir_at c (parent_key k)) (list_all-contains (is_placed c) c.kinds (k, kind) w.placed
        (contains_kind_at c k kind is))).0

-- A proper name that a directory does not have yet may be added.
pub is_content-extended : (c : Content) → IsContent c → (k : Key) (name : Text) (kind : Kind) → is_dir_at c k ≡ true
    → is_utf8 name ≡ true → is_proper name ≡ true
    → kind_at c (k ++ name ∷ []) ≡ None → is_content (extended_content c (k ++ name ∷ [], kind)) ≡ true
unfolding is_content
is_content-extended c w k name kind d utf8 proper free =
    let e : Key × Kind = (k ++ name ∷ [], kind) in
    let d' = extended_content c e in
    let named_ok : list_all (λ n. is_utf8 n && is_proper n) (k ++ name ∷ []) ≡ true =
    list_all-append (λ n. is_utf8 n && is_proper n) k (name ∷ []) ∙ and_from (list_all (λ n. is_utf8 n && is_proper n)
    k) (is_utf8 name && is_proper name && true) (names_at c w k d)
    (and_from (is_utf8 name && is_proper name) true (and_from (is_utf8 name) (is_proper name) utf8 proper) refl) in
    let e_placed : is_placed d' e ≡ true = and_from (list_all (λ n. is_utf8 n && is_proper n) (k ++ name ∷ []))
    (is_dir_at d' (parent_key (k ++ name ∷ []))) named_ok
    (ap (is_dir_at d') (parent_key-append k name) ∙ is_dir_at_kept c e k d) in
    let placed : list_all (is_placed d') (c.kinds ++ e ∷ []) ≡ true =
    list_all-append (is_placed d') c.kinds (e ∷ []) ∙ and_from (list_all (is_placed d') c.kinds)
    (is_placed d' e && true) (all_placed c e c.kinds w.placed) (and_from (is_placed d' e) true e_placed refl) in
    let distinct : are_distinct (c.kinds ++ e ∷ []) ≡ true = are_distinct-push c.kinds e w.distinct (λ f in' same.
    none-some f.1 (sym free ∙ ap (kind_at c) (sym same) ∙ kind_at-entry c w f in')) in
    and_from (is_dir_at d' [] && is_dir_at d' c.current && list_all (is_placed d') (c.kinds ++ e ∷ [])) (are_distinct (c.kinds ++ e ∷ []))
    (and_from (is_dir_at d' [] && is_dir_at d' c.current) (list_all (is_placed d') (c.kinds ++ e ∷ []))
    (and_from (is_dir_at d' []) (is_dir_at d' c.current) (is_dir_at_kept c e [] w.root) (is_dir_at_kept c e c.current
    w.current)) placed) distinct
