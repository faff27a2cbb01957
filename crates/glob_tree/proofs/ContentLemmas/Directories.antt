-- Paths that lead to directories, and the paths of their entries.
use Rattle.std.proofs.Common.{◌≡◌, ◌<◌, true, false, not, ◌&&◌, [], ◌∷◌, ◌++◌, length, Option, Some, None, refl, ap, sym, ◌∙◌, arith}
use Rattle.std.specs.Prelude.{◌==◌, Contains, bytes_eq, option_map, option_and_then, unwrap_or}
use Rattle.std.specs.List.{list_any, list_all}
use Rattle.std.specs.Str.{is_utf8}
use Rattle.std.specs.Path.{has_no_slash, parent_dir}
use Rattle.std.proofs.lemmas.Bool.{and_parts, and_from, or_parts, not-true, not_from_false, both_ways}
use Rattle.std.proofs.lemmas.List.{append_assoc, append-nil}
use Rattle.glob_text.specs.Characters.{slash}
use Rattle.glob_text.specs.Text.{Text}
use Rattle.glob_tree.specs.Paths.{stays, child, is_barred, is_proper}
use Rattle.glob_tree.specs.Content.{Content, Key, parent_key, kind_at, is_dir, is_dir_at, is_placed, step, resolve}
use Rattle.glob_tree.specs.Content.{look_result, look_of, DirEntry, children, list_result, list_found, list_of, Entries}
use Rattle.glob_tree.specs.Content.{Fails}
use Rattle.glob_tree.specs.Looks.{is_directory}
use Rattle.glob_tree.specs.declared.kind.Kind.{Kind}
use Rattle.glob_tree.specs.declared.kind.Kind.TheVariants.{Dir, Shut, Other}
use Rattle.glob_tree.proofs.ContentLemmas.Membership.{list_all-contains}
use Rattle.glob_tree.proofs.ContentLemmas.Resolving.{resolve_child}
use Rattle.glob_tree.proofs.ContentLemmas.Contents.{IsContent, IsChild-list_result, contains_kind_at, parent_key-append}

-- the path leads to the directory at k
pub record LeadsTo (c : Content) (path : Text) (k : Key) : Type 0 where
  pub resolved : resolve c path ≡ Some k
  pub directory : is_dir_at c k ≡ true

no_bar : (name : Text) → list_any is_barred name ≡ false → has_no_slash name ≡ true
no_bar [] h = refl
no_bar (x ∷ xs) h =
    let parts = or_parts (is_barred x) (list_any is_barred xs) h in
    and_from (not (x == slash)) (has_no_slash xs) (not_from_false (x == slash) (or_parts (x == slash)
    (x == 0) parts.0).0) (no_bar xs parts.1)

-- what follows from a name being proper
pub record IsName (name : Text) : Type 0 where
  pub some : 0 < length name
  pub plain : has_no_slash name ≡ true
  pub leads : stays name ≡ false
  pub down : bytes_eq name parent_dir ≡ false

pub IsName-from_proper : (name : Text) → is_proper name ≡ true → IsName name
IsName-from_proper name h =
    let (ab, bars) = and_parts (not (stays name) && not (bytes_eq name parent_dir)) (not (list_any is_barred name)) h in
    let (a, b) = and_parts (not (stays name)) (not (bytes_eq name parent_dir)) ab in
    record {
      some = some name (not-true (stays name) a);
      plain = no_bar name (not-true (list_any is_barred name) bars);
      leads = not-true (stays name) a;
      down = not-true (bytes_eq name parent_dir) b;
    }
  where
    some : (name : Text) → stays name ≡ false → 0 < length name
    some [] h = absurd (both_ways true h refl)
    some (x ∷ xs) h = omega arith

-- a name leads to the key with that name added
pub step_name : (c : Content) (k : Key) (name : Text) → IsName name → is_dir_at c k ≡ true → (kind : Kind) → kind_at c
    (k ++ name ∷ []) ≡ Some kind
    → step c name k ≡ Some (k ++ name ∷ [])
step_name c k name n d kind held = rw (d, n.leads, n.down, held) refl

-- what is at a key decides whether it is a directory
pub is_dir_at-kind : (c : Content) (k : Key) (kind : Kind) → kind_at c k ≡ Some kind → is_dir_at c k ≡ is_dir kind
is_dir_at-kind c k kind h = rw h refl

-- the path of an entry leads to its key
pub resolve_listed : (c : Content) → IsContent c → (path : Text) (k : Key) → LeadsTo c path k → (l : DirEntry) → Contains (children c k) l
    → resolve c (child path l.0) ≡ Some (k ++ l.0 ∷ [])
resolve_listed c w path k at l in' =
    let is = IsChild-list_result c w k l in' in
    let name = IsName-from_proper l.0 is.proper in
    resolve_child c path l.0 k at.resolved name.some name.plain ∙ step_name c k l.0 name at.directory is.kind is.held

-- the path of an entry that is a directory leads to a directory
pub LeadsTo-list_result : (c : Content) → IsContent c → (path : Text) (k : Key) → LeadsTo c path k → (l : DirEntry)
    → Contains (children c k) l → l.1 ≡ true
    → LeadsTo c (child path l.0) (k ++ l.0 ∷ [])
LeadsTo-list_result c w path k at l in' d =
    let is = IsChild-list_result c w k l in' in
    record {
      resolved = resolve_listed c w path k at l in';
      directory = is_dir_at-kind c (k ++ l.0 ∷ []) is.kind
          is.held ∙ (is.is_same ∙ d);
    }

-- if a look finds a directory, the path leads to one
pub LeadsTo-from_looked : (c : Content) (path : Text) → is_directory (look_result c path) ≡ true → (k : Key) × LeadsTo c path k
unfolding look_result
LeadsTo-from_looked c path h = from_key (resolve c path) refl h
  where
    from_kind : (k : Key) (o : Option Kind) → resolve c path ≡ Some k → kind_at c k ≡ o → is_directory
        (look_of o) ≡ true → (k : Key) × LeadsTo c path k
    from_kind k None r e h = absurd (both_ways false refl h)
    from_kind k (Some Dir) r e h = (k, record { resolved = r; directory = is_dir_at-kind c k Dir e })
    from_kind k (Some (Shut kind)) r e h = (k, record { resolved = r; directory = is_dir_at-kind c k (Shut kind) e })
    from_kind k (Some Other) r e h = absurd (both_ways false refl h)

    from_key : (o : Option Key) → resolve c path ≡ o → is_directory (look_of (option_and_then (kind_at c) o)) ≡ true →
        (k : Key) × LeadsTo c path k
    from_key None r h = absurd (both_ways false refl h)
    from_key (Some k) r h = from_kind k (kind_at c k) r refl h

-- if the path leads to a directory, a look finds one
pub is_directory-look_result : (c : Content) (path : Text) (k : Key) → LeadsTo c path k → is_directory (look_result c path) ≡ true
unfolding look_result
is_directory-look_result c path k at = rw at.resolved (of_kind (kind_at c k) at.directory)
  where
    of_kind : (o : Option Kind) → unwrap_or (option_map is_dir o) false ≡ true → is_directory (look_of o) ≡ true
    of_kind None h = h
    of_kind (Some Dir) h = refl
    of_kind (Some (Shut kind)) h = refl
    of_kind (Some Other) h = h

-- what listing a directory returns
pub data ListsAs (c : Content) (path : Text) (k : Key) : Type 0 where
  Read : kind_at c k ≡ Some Dir → list_result c path ≡ Entries (children c k) → ListsAs c path k
  Unreadable : (kind : _) → kind_at c k ≡ Some (Shut kind) → list_result c path ≡ Fails kind → ListsAs c path k

pub ListsAs-from_leads : (c : Content) (path : Text) (k : Key) → LeadsTo c path k → ListsAs c path k
unfolding list_result
ListsAs-from_leads c path k at = of_kind (kind_at c k) refl at.directory
  where
    of_kind : (o : Option Kind) → kind_at c k ≡ o → unwrap_or (option_map is_dir o) false ≡ true → ListsAs c path k
    of_kind None e h = absurd (both_ways false refl h)
    of_kind (Some Dir) e h = Read e (ap (list_found c) at.resolved ∙ ap (list_of c k) e)
    of_kind (Some (Shut kind)) e h = Unreadable kind e (ap (list_found c) at.resolved ∙ ap (list_of c k) e)
    of_kind (Some Other) e h = absurd (both_ways false refl h)

-- the parent of a directory is a directory
pub above : (c : Content) → IsContent c → (k : Key) (name : Text) → is_dir_at c (k ++ name ∷ []) ≡ true → is_dir_at c k ≡ true
above c w k name d = of_kind (kind_at c (k ++ name ∷ [])) refl d
  where
    of_kind : (o : Option Kind) → kind_at c (k ++ name ∷ []) ≡ o → unwrap_or (option_map is_dir o) false ≡ true → is_dir_at c k ≡ true
    of_kind None is h = absurd (both_ways false refl h)
    of_kind (Some kind) is h =
        let placed = list_all-contains (is_placed c) c.kinds (k ++ name ∷ [], kind) w.placed (contains_kind_at c
        (k ++ name ∷ []) kind is) in
        ap (is_dir_at c) (sym (parent_key-append k name)) ∙ (and_parts (list_all (λ n. is_utf8 n && is_proper n)
        (k ++ name ∷ [])) (is_dir_at c (parent_key (k ++ name ∷ []))) placed).1

pub all_above : (c : Content) → IsContent c → (k names : Key) → is_dir_at c (k ++ names) ≡ true → is_dir_at c k ≡ true
all_above c w k [] d = ap (is_dir_at c) (sym (append-nil k)) ∙ d
all_above c w k (name ∷ names) d = above c w k name (all_above c w (k ++ name ∷ []) names (ap (is_dir_at c)
    (append_assoc k (name ∷ []) names) ∙ d))

-- something is at the key of a directory
pub directory_kind : (c : Content) (k : Key) → is_dir_at c k ≡ true → (kind : Kind) × (kind_at c k ≡ Some kind)
directory_kind c k d = of_kind (kind_at c k) refl d
  where
    of_kind : (o : Option Kind) → kind_at c k ≡ o → unwrap_or (option_map is_dir o) false ≡ true → (kind : Kind) × (kind_at c k ≡ Some kind)
    of_kind None is h = absurd (both_ways false refl h)
    of_kind (Some kind) is h = (kind, is)
