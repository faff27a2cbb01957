-- Paths of names below the start, and where they lead.
use Rattle.std.proofs.Common.{◌≡◌, ◌-◌, ◌<◌, Bool, true, false, cond, ◌&&◌, [], ◌∷◌, ◌++◌, fold, length, take, Option}
use Rattle.std.proofs.Common.{Some, None, refl, ap, sym, subst, ◌∙◌, arith}
use Rattle.std.specs.Prelude.{bytes_eq, option_and_then, is_some}
use Rattle.std.specs.List.{list_all, join_with_byte}
use Rattle.std.specs.Path.{cur_dir}
use Rattle.std.specs.Str.{is_utf8}
use Rattle.std.proofs.lemmas.Bool.{and_parts, and_from, and_right, cond-false, both_ways, false_from_ne_true}
use Rattle.std.proofs.lemmas.List.{append_assoc, append-nil}
use Rattle.std.proofs.lemmas.List.Folds.{list_all-append}
use Rattle.std.proofs.lemmas.Slice.Eq.{bytes_eq-Decides}
use Rattle.glob_text.specs.Characters.{slash, dot}
use Rattle.glob_text.specs.Pieces.{pieces, begins_with, ends_with}
use Rattle.glob_text.specs.Text.{Text}
use Rattle.glob_tree.specs.Content.{Content, Key, child_key, kind_at, is_dir_at, is_placed, kind_found, parent_key, resolve}
use Rattle.glob_tree.specs.Paths.{child, is_here, is_proper, join, stays}
use Rattle.glob_tree.specs.declared.kind.Kind.{Kind}
use Rattle.glob_tree.proofs.ContentLemmas.Contents.{IsContent, contains_kind_at}
use Rattle.glob_tree.proofs.ContentLemmas.Directories.{IsName-from_proper, LeadsTo, all_above, directory_kind, step_name}
use Rattle.glob_tree.proofs.ContentLemmas.Membership.{list_all-contains}
use Rattle.glob_tree.proofs.ContentLemmas.Resolving.{front_and_end, join_open, pieces-append, pieces_one, resolve_child}
use Rattle.glob_tree.proofs.ContentLemmas.Resolving.{resolve_steps, step_down, step_here}
use Rattle.glob_search.specs.Aims.{path_of}
use Rattle.glob_search.specs.Laws.{PathsJoinNames}
use Rattle.glob_search.specs.Private.Ways.{names_in}

-- the names are proper
abbrev pub AreProper : Key → Type 0
AreProper names = list_all is_proper names ≡ true

pub proper-append : (names more : Key) → AreProper names → AreProper more → AreProper (names ++ more)
proper-append names more h k = list_all-append is_proper names more ∙ and_from (list_all is_proper names) (list_all is_proper more) h k

pub proper-parts : (names more : Key) → AreProper (names ++ more) → AreProper names × AreProper more
proper-parts names more h = and_parts (list_all is_proper names) (list_all is_proper more) (sym (list_all-append is_proper names more) ∙ h)

-- the names of a joined path
pub pieces-join : (n : Text) (ns : Key) → AreProper (n ∷ ns) → pieces (join_with_byte slash (n ∷ ns)) ≡ n ∷ ns
pieces-join n [] h = pieces_one n (IsName-from_proper n (and_parts (is_proper n) true h).0).plain
pieces-join n (m ∷ ms) h =
    let (here, later) = and_parts (is_proper n) (list_all is_proper (m ∷ ms)) h in
    pieces-append n (join_with_byte slash (m ∷ ms))
    ∙ ap (λ ps. ps ++ pieces (join_with_byte slash (m ∷ ms))) (pieces_one n (IsName-from_proper n here).plain)
    ∙ ap (λ ps. n ∷ ps) (pieces-join m ms later)

-- the first of proper names does not stay
not-here : (n : Text) (ns : Key) → AreProper (n ∷ ns) → list_all stays (n ∷ ns) ≡ false
not-here n ns h = ap (λ b. b && list_all stays ns) (IsName-from_proper n (and_parts (is_proper n) (list_all is_proper ns) h).0).leads

joined-leads : (n : Text) (ns : Key) → AreProper (n ∷ ns) → is_here (join_with_byte slash (n ∷ ns)) ≡ false
joined-leads n ns h =
    let path = join_with_byte slash (n ∷ ns) in
    and_right (begins_with dot path) (list_all stays (pieces path)) (ap (list_all stays) (pieces-join n ns h) ∙ not-here n ns h)

joined-not_start : (n : Text) (ns : Key) → AreProper (n ∷ ns) → bytes_eq (join_with_byte slash (n ∷ ns)) cur_dir ≡ false
joined-not_start n ns h = false_from_ne_true (bytes_eq (join_with_byte slash (n ∷ ns)) cur_dir) (λ same.
    let is : join_with_byte slash (n ∷ ns) ≡ cur_dir = (bytes_eq-Decides (join_with_byte slash (n ∷ ns)) cur_dir).0 same in
    both_ways (is_here (join_with_byte slash (n ∷ ns))) (joined-leads n ns h) (ap is_here is))

-- the names of a path of names
pub names_in-path_of : (names : Key) → AreProper names → names_in (path_of names) ≡ names
names_in-path_of [] h = refl
names_in-path_of (n ∷ ns) h =
    cond-false (bytes_eq (path_of (n ∷ ns)) cur_dir) [] (pieces (path_of (n ∷ ns))) (joined-not_start n ns h) ∙ pieces-join n ns h

some-joined : (n : Text) (ns : Key) → 0 < length n → 0 < length (join_with_byte slash (n ∷ ns))
some-joined [] ns h = absurd (omega (arith, h))
some-joined (x ∷ xs) [] h = omega arith
some-joined (x ∷ xs) (m ∷ ms) h = omega arith

pub join-more : (n : Text) (ns : Key) (m : Text) → join_with_byte slash (n ∷ (ns ++ m ∷ [])) ≡ join_with_byte slash (n ∷ ns) ++ slash ∷ m
join-more n [] m = refl
join-more n (p ∷ ps) m = ap (λ t. n ++ slash ∷ t) (join-more p ps m) ∙ sym (append_assoc n
    (slash ∷ join_with_byte slash (p ∷ ps)) (slash ∷ m))

-- no path of names ends in a separator
joined-open : (n : Text) (ns : Key) → AreProper (n ∷ ns) → ends_with slash (join_with_byte slash (n ∷ ns)) ≡ false
joined-open n ns h =
    let path = join_with_byte slash (n ∷ ns) in
    false_from_ne_true (ends_with slash path) (λ e.
    let some = some-joined n ns (IsName-from_proper n (and_parts (is_proper n) (list_all is_proper ns) h).0).some in
    let front = take (length path - 1) path in
    let cut : n ∷ ns ≡ pieces front ++ [] ∷ [] = sym (pieces-join n ns h) ∙ ap pieces (front_and_end slash path e some)
    ∙ pieces-append front [] in
    let last = (proper-parts (pieces front) ([] ∷ []) (subst AreProper cut h)).1 in
    both_ways (is_proper [] && true) refl last)

-- a name is joined to the path of a directory, which is empty for the start
pub join-next : (names : Key) (n : Text) → AreProper names
    → join (join_with_byte slash names) n ≡ join_with_byte slash (names ++ n ∷ [])
unfolding join
join-next [] n h = refl
join-next (m ∷ ms) n h =
    let path = join_with_byte slash (m ∷ ms) in
    join_open path n (some-joined m ms (IsName-from_proper m (and_parts (is_proper m) (list_all is_proper ms) h).0).some)
    (joined-open m ms h)
    ∙ append_assoc path (slash ∷ []) n
    ∙ sym (join-more m ms n)

-- the path of a name in a directory
pub path_of-child : (names : Key) (n : Text) → AreProper names → path_of (names ++ n ∷ []) ≡ child (path_of names) n
unfolding child
path_of-child [] n h = refl
path_of-child (m ∷ ms) n h =
    sym (join-next (m ∷ ms) n h)
    ∙ sym (cond-false (is_here (path_of (m ∷ ms))) n (join (path_of (m ∷ ms)) n) (joined-leads m ms h))

-- the path of the start alone is empty
pub joined-empty : (names : Key) → AreProper names → length (join_with_byte slash names) ≡ 0 → names ≡ []
joined-empty [] h none = refl
joined-empty (n ∷ ns) h none =
    absurd (omega (arith, none, some-joined n ns (IsName-from_proper n (and_parts (is_proper n) (list_all is_proper ns) h).0).some))

-- going down by proper names
down-from : (front names : Key) → AreProper (front ++ names) → fold child (path_of front) names ≡ path_of (front ++ names)
down-from front [] h = ap path_of (sym (append-nil front))
down-from front (n ∷ ns) h =
    let next : front ++ n ∷ ns ≡ (front ++ n ∷ []) ++ ns = sym (append_assoc front (n ∷ []) ns) in
    ap (λ p. fold child p ns) (sym (path_of-child front n (proper-parts front (n ∷ ns) h).0))
    ∙ down-from (front ++ n ∷ []) ns (subst AreProper next h)
    ∙ ap path_of (sym next)

pub paths_join : PathsJoinNames
paths_join names proper = down-from [] names proper

pub path_of-joined : (names : Key) (n : Text) → path_of (names ++ n ∷ []) ≡ join_with_byte slash (names ++ n ∷ [])
path_of-joined [] n = refl
path_of-joined (m ∷ ms) n = refl

module _ (c : Content) (w : IsContent c) where
  -- the names of what is there are proper
  pub names-proper : (k names : Key) (kind : Kind) → kind_at c (k ++ names) ≡ Some kind → AreProper names
  names-proper k names kind held =
      let placed = list_all-contains (is_placed c) c.kinds (k ++ names, kind) w.placed (contains_kind_at c (k ++ names) kind held) in
      let all = (and_parts (list_all is_name (k ++ names)) (is_dir_at c (parent_key (k ++ names))) placed).0 in
      each names ((and_parts (list_all is_name k) (list_all is_name names) (sym (list_all-append is_name k names) ∙ all)).1)
    where
      is_name : Text → Bool
      is_name n = is_utf8 n && is_proper n

      each : (ns : Key) → list_all is_name ns ≡ true → AreProper ns
      each [] h = refl
      each (n ∷ ns) h =
          let (here, later) = and_parts (is_name n) (list_all is_name ns) h in
          and_from (is_proper n) (list_all is_proper ns) (and_parts (is_utf8 n) (is_proper n) here).1 (each ns later)

  pub directory-proper : (names : Key) → is_dir_at c (c.current ++ names) ≡ true → AreProper names
  directory-proper names d = let (kind, held) = directory_kind c (c.current ++ names) d in names-proper c.current names kind held

  start : resolve c (path_of []) ≡ Some c.current
  start = resolve_steps c cur_dir (omega arith) ∙ step_here c c.current cur_dir w.current refl

  -- the path of a directory leads to it
  pub leads-from : (before names : Key) → resolve c (path_of before) ≡ Some (c.current ++ before) → is_dir_at c (c.current ++ before) ≡ true
      → is_dir_at c (c.current ++ (before ++ names)) ≡ true → resolve c (path_of (before ++ names)) ≡ Some (c.current ++ (before ++ names))
  leads-from before [] r d there = subst (λ k. resolve c (path_of k) ≡ Some (c.current ++ k)) (sym (append-nil before)) r
  leads-from before (n ∷ ns) r d there =
      let next : before ++ n ∷ ns ≡ (before ++ n ∷ []) ++ ns = sym (append_assoc before (n ∷ []) ns) in
      let deeper : is_dir_at c (c.current ++ ((before ++ n ∷ []) ++ ns)) ≡ true = ap (λ k. is_dir_at c
      (c.current ++ k)) (sym next) ∙ there in
      let here : is_dir_at c (c.current ++ (before ++ n ∷ [])) ≡ true =
      all_above c w (c.current ++ (before ++ n ∷ [])) ns (ap (is_dir_at c) (append_assoc c.current (before ++ n ∷ []) ns) ∙ deeper) in
      let proper = proper-parts before (n ∷ []) (directory-proper (before ++ n ∷ []) here) in
      let name = IsName-from_proper n (and_parts (is_proper n) true proper.1).0 in
      let (kind, held) = directory_kind c (c.current ++ (before ++ n ∷ [])) here in
      let further : (c.current ++ before) ++ n ∷ [] ≡ c.current ++ (before ++ n ∷ []) = append_assoc c.current before (n ∷ []) in
      let one : resolve c (path_of (before ++ n ∷ [])) ≡ Some (c.current ++ (before ++ n ∷ [])) =
      ap (resolve c) (path_of-child before n proper.0)
      ∙ resolve_child c (path_of before) n (c.current ++ before) r name.some name.plain
      ∙ step_name c (c.current ++ before) n name d kind (ap (kind_at c) further ∙ held)
      ∙ ap Some further in
      subst (λ k. resolve c (path_of k) ≡ Some (c.current ++ k)) (sym next) (leads-from (before ++ n ∷ []) ns one here deeper)

  pub path-leads : (names : Key) → is_dir_at c (c.current ++ names) ≡ true → LeadsTo c (path_of names) (c.current ++ names)
  path-leads names there = record {
    resolved = leads-from [] names (start ∙ ap Some (sym (append-nil c.current))) (ap (is_dir_at c)
        (append-nil c.current) ∙ w.current) there;
    directory = there;
  }

  -- what is found at the path of a name in a directory
  pub child-found : (names : Key) (n : Text) → is_dir_at c (c.current ++ names) ≡ true → is_proper n ≡ true
      → kind_found c (path_of (names ++ n ∷ [])) ≡ kind_at c (c.current ++ (names ++ n ∷ []))
  child-found names n there proper =
      let name = IsName-from_proper n proper in
      let further : (c.current ++ names) ++ n ∷ [] ≡ c.current ++ (names ++ n ∷ []) = append_assoc c.current names (n ∷ []) in
      ap (option_and_then (kind_at c))
      (ap (resolve c) (path_of-child names n (directory-proper names there))
      ∙ resolve_child c (path_of names) n (c.current ++ names) (path-leads names there).resolved name.some name.plain
      ∙ step_down c (c.current ++ names) n there name.leads name.down)
      ∙ by_kind (kind_at c ((c.current ++ names) ++ n ∷ [])) refl
      ∙ ap (kind_at c) further
    where
      by_kind : (o : Option Kind) → kind_at c ((c.current ++ names) ++ n ∷ []) ≡ o
          → option_and_then (kind_at c) (child_key c (c.current ++ names) n) ≡ kind_at c ((c.current ++ names) ++ n ∷ [])
      by_kind None is = ap (λ o. option_and_then (kind_at c) (cond (is_some o) (Some ((c.current ++ names) ++ n ∷ [])) None)) is ∙ sym is
      by_kind (Some kind) is = ap (λ o. option_and_then (kind_at c) (cond (is_some o) (Some ((c.current ++ names) ++ n ∷ [])) None)) is
