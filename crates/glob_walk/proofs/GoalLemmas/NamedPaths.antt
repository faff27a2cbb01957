-- The paths of names below the start of a walk: they are the texts of the names, and lead to their keys.
use Rattle.std.proofs.Common.{◌≡◌, ℕ, suc, ◌-◌, ◌<◌, Bool, true, false, cond, not, ◌&&◌, ◌||◌, ◌==◌, List, [], ◌∷◌}
use Rattle.std.proofs.Common.{◌++◌, length, filter, slice_index, Some, refl, sym, ap, ap₂, ◌∙◌, arith}
use Rattle.std.specs.List.{list_all, join_with_byte}
use Rattle.std.specs.Path.{has_no_slash, root_dir, cur_dir}
use Rattle.std.specs.Str.{is_utf8}
use Rattle.std.proofs.lemmas.Str.{IsUtf8-from_is_utf8}
use Rattle.std.proofs.lemmas.Bool.{and_parts, and_from, and_right, or_from, not-true, ne_eqb, cond-true, cond-false}
use Rattle.std.proofs.lemmas.List.{append_assoc, append-nil, length-append, get_or-append_right}
use Rattle.std.proofs.lemmas.List.Folds.{list_all-append}
use Rattle.glob_text.specs.Text.{Text}
use Rattle.glob_text.specs.Characters.{slash, dot}
use Rattle.glob_text.specs.Pieces.{is_empty, begins_with, ends_with, pieces}
use Rattle.glob_tree.specs.Paths.{join, stays, is_here, child, is_proper}
use Rattle.glob_tree.specs.Content.{Content, Key, kind_at, resolve, origin}
use Rattle.glob_tree.specs.declared.kind.Kind.{Kind}
use Rattle.glob_tree.proofs.ContentLemmas.Contents.{IsContent}
use Rattle.glob_tree.proofs.ContentLemmas.Directories.{LeadsTo, IsName, IsName-from_proper, step_name}
use Rattle.glob_tree.proofs.ContentLemmas.Resolving.{resolve_child, pieces-append, pieces_one}
use Rattle.glob_walk.specs.Components.{start}
use Rattle.glob_walk.specs.Goal.{text_below, names_of}
use Rattle.glob_walk.specs.Laws.{are_names}
use Rattle.glob_walk.proofs.GoalLemmas.Characters.{AllUtf8}
use Rattle.glob_walk.proofs.GoalLemmas.Finds.{under}
use Rattle.glob_walk.proofs.GoalLemmas.KeysBelow.{held_above, on_the_way}

-- the path ends in a name
record IsNamed (path : Text) : Type 0 where
  some : 0 < length path
  pub here : is_here path ≡ false
  ended : ends_with slash path ≡ false

last-flat : (xs : Text) → has_no_slash xs ≡ true → 0 < length xs → (slice_index xs (length xs - 1) == slash) ≡ false
last-flat [] h l = absurd (omega arith)
last-flat (x ∷ []) h l = not-true (x == slash) (and_parts (not (x == slash)) true h).0
last-flat (x ∷ y ∷ xs) h l =
    let both = and_parts (not (x == slash)) (has_no_slash (y ∷ xs)) h in
    let back : length (x ∷ y ∷ xs) - 1 ≡ suc (length xs) = omega arith in
    let next : length (y ∷ xs) - 1 ≡ length xs = omega arith in
    ap (λ k. slice_index (x ∷ y ∷ xs) k == slash) back ∙ ap (λ k. slice_index (y ∷ xs) k == slash) (sym next)
    ∙ last-flat (y ∷ xs) both.1 (omega arith)

IsNamed-name : (n : Text) → IsName n → IsNamed n
IsNamed-name n is = record {
  some = is.some;
  here = and_right (begins_with dot n) (list_all stays (pieces n)) (ap (list_all stays) (pieces_one n is.plain) ∙ ap
      (λ b. b && true) is.leads);
  ended = last-flat n is.plain is.some;
}

IsNamed-child : (path n : Text) → IsName n → IsNamed (path ++ slash ∷ n)
IsNamed-child path n is = record {
  some = omega (arith, length-append path (slash ∷ n));
  here = and_right (begins_with dot (path ++ slash ∷ n)) (list_all stays (pieces (path ++ slash ∷ n)))
      (ap (list_all stays) (pieces-append path n ∙ ap (λ ps. pieces path ++ ps) (pieces_one n is.plain))
      ∙ list_all-append stays (pieces path) (n ∷ [])
      ∙ and_right (list_all stays (pieces path)) (stays n && true) (ap (λ b. b && true) is.leads));
  ended =
      let l = length-append path (slash ∷ n) in
      let some = is.some in
      let k : ℕ = length (path ++ slash ∷ n) - 1 in
      let at : k - length path ≡ suc (length n - 1) = omega arith in
      ap (λ c. c == slash) (get_or-append_right path (slash ∷ n) (length path) k 0 refl (omega arith) ∙ ap
      (λ j. slice_index (slash ∷ n) j) at) ∙ last-flat n is.plain is.some;
}

child-child_key : (path n : Text) → IsNamed path → child path n ≡ path ++ slash ∷ n
unfolding child join
child-child_key path n is =
    let some : (length path == 0) ≡ false = ne_eqb (length path) 0 (λ z. omega (arith, z, is.some)) in
    cond-false (is_here path) n (join path n) is.here
    ∙ ap (λ p. p ++ n) (cond-false (length path == 0 || ends_with slash path) path (path ++ slash ∷ [])
    (or_from (length path == 0) (ends_with slash path) some is.ended))
    ∙ append_assoc path (slash ∷ []) n

abbrev pub AreNames : List Text → Type 0
AreNames [] = Unit {0}
AreNames (n ∷ ns) = IsName n × AreNames ns

under-child_key : (path n : Text) (ns : Key) → IsNamed path → AreNames (n ∷ ns) → under path (n ∷ ns) ≡ path ++ slash ∷
    join_with_byte slash (n ∷ ns)
under-child_key path n [] is names = child-child_key path n is
under-child_key path n (m ∷ ns) is names =
    ap (λ p. under p (m ∷ ns)) (child-child_key path n is)
    ∙ under-child_key (path ++ slash ∷ n) m ns (IsNamed-child path n names.0) names.1
    ∙ append_assoc path (slash ∷ n) (slash ∷ join_with_byte slash (m ∷ ns))

under-first : (n : Text) (ns : Key) → AreNames (n ∷ ns) → under n ns ≡ join_with_byte slash (n ∷ ns)
under-first n [] names = refl
under-first n (m ∷ ns) names = under-child_key n m ns (IsNamed-name n names.0) names.1

under-root : (n : Text) (ns : Key) → AreNames (n ∷ ns) → under (slash ∷ n) ns ≡ slash ∷ join_with_byte slash (n ∷ ns)
under-root n [] names = refl
under-root n (m ∷ ns) names = under-child_key (slash ∷ n) m ns (IsNamed-child [] n names.0) names.1

child-here : (n : Text) → child cur_dir n ≡ n
unfolding child
child-here n = refl

child-root : (n : Text) → child root_dir n ≡ slash ∷ n
unfolding child join
child-root n = refl

-- the path of names after the start is their text
pub under-start : (pattern : Text) (n : Text) (ns : Key) → AreNames (n ∷ ns) → under (start pattern) (n ∷ ns) ≡ text_below pattern (n ∷ ns)
under-start pattern n ns names = by_root (begins_with slash pattern)
  where
    by_root : (b : Bool) → under (cond b root_dir cur_dir) (n ∷ ns) ≡ cond b (slash ∷ join_with_byte slash (n ∷ ns))
        (join_with_byte slash (n ∷ ns))
    by_root true = ap (λ p. under p ns) (child-root n) ∙ under-root n ns names
    by_root false = ap (λ p. under p ns) (child-here n) ∙ under-first n ns names

pub AreNames-from : (ns : Key) → are_names ns ≡ true → AreNames ns
AreNames-from [] h = tt
AreNames-from (n ∷ ns) h =
    let both = and_parts (is_utf8 n && is_proper n) (are_names ns) h in
    (IsName-from_proper n (and_parts (is_utf8 n) (is_proper n) both.0).1, AreNames-from ns both.1)

pub AllUtf8-from : (ns : Key) → are_names ns ≡ true → AllUtf8 ns
AllUtf8-from [] h = tt
AllUtf8-from (n ∷ ns) h =
    let both = and_parts (is_utf8 n && is_proper n) (are_names ns) h in
    (IsUtf8-from_is_utf8 n (and_parts (is_utf8 n) (is_proper n) both.0).0, AllUtf8-from ns both.1)

pub flat-from : (ns : Key) → AreNames ns → list_all has_no_slash ns ≡ true
flat-from [] names = refl
flat-from (n ∷ ns) names = and_from (has_no_slash n) (list_all has_no_slash ns) names.0.plain (flat-from ns names.1)

-- a path has the names that it was made from
pieces-joined : (n : Text) (ns : Key) → AreNames (n ∷ ns) → pieces (join_with_byte slash (n ∷ ns)) ≡ n ∷ ns
pieces-joined n [] names = pieces_one n names.0.plain
pieces-joined n (m ∷ ns) names =
    pieces-append n (join_with_byte slash (m ∷ ns)) ∙ ap₂ (λ x y. x ++ y) (pieces_one n names.0.plain) (pieces-joined m ns names.1)

kept_names : (ns : Key) → AreNames ns → filter (λ piece. not (is_empty piece)) ns ≡ ns
kept_names [] names = refl
kept_names (n ∷ ns) names = cond-true (not (is_empty n)) _ _ (some n names.0.some) ∙ ap (λ ms. n ∷ ms) (kept_names ns names.1)
  where
    some : (n : Text) → 0 < length n → not (is_empty n) ≡ true
    some [] l = absurd (omega arith)
    some (x ∷ xs) l = refl

pub names_of-below : (pattern : Text) (n : Text) (ns : Key) → AreNames (n ∷ ns) → names_of (text_below pattern (n ∷ ns)) ≡ n ∷ ns
names_of-below pattern n ns names = by_root (begins_with slash pattern)
  where
    by_root : (b : Bool) → names_of (cond b (slash ∷ join_with_byte slash (n ∷ ns)) (join_with_byte slash (n ∷ ns))) ≡ n ∷ ns
    by_root true = ap (filter (λ piece. not (is_empty piece))) (pieces-append [] (join_with_byte slash (n ∷ ns)) ∙ ap
        (λ ps. [] ∷ ps) (pieces-joined n ns names)) ∙ kept_names (n ∷ ns) names
    by_root false = ap (filter (λ piece. not (is_empty piece))) (pieces-joined n ns names) ∙ kept_names (n ∷ ns) names

-- the start leads to its key
pub LeadsTo-start : (c : Content) → IsContent c → (pattern : Text) → LeadsTo c (start pattern) (origin c pattern)
unfolding resolve
LeadsTo-start c w pattern = by_root (begins_with slash pattern)
  where
    by_root : (b : Bool) → LeadsTo c (cond b root_dir cur_dir) (cond b [] c.current)
    by_root true = record { resolved = rw (w.root) (rw (w.root) refl); directory = w.root }
    by_root false = record { resolved = rw (w.current) refl; directory = w.current }

-- the path of names leads to their key
pub resolve-under : (c : Content) → IsContent c → (path : Text) (k names : Key) (kind : Kind) → resolve c path ≡ Some k
    → kind_at c (k ++ names) ≡ Some kind → AreNames names → resolve c (under path names) ≡ Some (k ++ names)
resolve-under c w path k [] kind leads held names = leads ∙ ap Some (sym (append-nil k))
resolve-under c w path k (n ∷ ns) kind leads held names =
    let way = on_the_way c w k n ns kind held in
    resolve-under c w (child path n) (k ++ n ∷ []) ns kind
    (resolve_child c path n k leads names.0.some names.0.plain ∙ step_name c k n names.0 (held_above c w k n way.0 way.1) way.0 way.1)
    (ap (kind_at c) (append_assoc k (n ∷ []) ns) ∙ held) names.1
    ∙ ap Some (append_assoc k (n ∷ []) ns)
