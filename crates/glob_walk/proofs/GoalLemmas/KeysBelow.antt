-- What is at the keys below a key of a content.
use Rattle.std.proofs.Common.{◌≡◌, Bool, true, ◌&&◌, [], ◌∷◌, ◌++◌, Option, Some, sym, ap, ◌∙◌}
use Rattle.std.specs.Prelude.{Contains}
use Rattle.std.specs.List.{list_all}
use Rattle.std.specs.Str.{is_utf8}
use Rattle.std.proofs.lemmas.Bool.{and_parts}
use Rattle.std.proofs.lemmas.List.{append_assoc}
use Rattle.std.proofs.lemmas.List.Folds.{list_all-append}
use Rattle.glob_text.specs.Text.{Text}
use Rattle.glob_tree.specs.Paths.{is_proper}
use Rattle.glob_tree.specs.Content.{Content, Key, DirEntry, kind_at, is_dir, is_dir_at, is_placed, parent_key, children}
use Rattle.glob_tree.specs.declared.kind.Kind.{Kind}
use Rattle.glob_tree.proofs.ContentLemmas.Membership.{list_all-contains}
use Rattle.glob_tree.proofs.ContentLemmas.Contents.{contains_kind_at, parent_key-append, IsContent, IsChild-list_result}
use Rattle.glob_tree.proofs.ContentLemmas.Directories.{is_dir_at-kind, all_above, directory_kind}
use Rattle.glob_walk.specs.Laws.{are_names}

-- what is at a key is in a directory
pub held_above : (c : Content) → IsContent c → (k : Key) (name : Text) (kind : Kind) → kind_at c (k ++ name ∷ []) ≡
    Some kind → is_dir_at c k ≡ true
held_above c w k name kind is =
    let placed = list_all-contains (is_placed c) c.kinds (k ++ name ∷ [], kind) w.placed (contains_kind_at c (k ++ name ∷ []) kind is) in
    ap (is_dir_at c) (sym (parent_key-append k name)) ∙ (and_parts (list_all (λ n. is_utf8 n && is_proper n)
    (k ++ name ∷ [])) (is_dir_at c (parent_key (k ++ name ∷ []))) placed).1

-- something is at each key on the way to a key
pub on_the_way : (c : Content) → IsContent c → (k : Key) (n : Text) (ns : Key) (kind : Kind) → kind_at c
    (k ++ n ∷ ns) ≡ Some kind → (found : Kind) × (kind_at c (k ++ n ∷ []) ≡ Some found)
on_the_way c w k n [] kind held = (kind, held)
on_the_way c w k n (m ∷ ns) kind held =
    let here : kind_at c ((k ++ n ∷ []) ++ m ∷ ns) ≡ Some kind = ap (kind_at c) (append_assoc k (n ∷ []) (m ∷ ns)) ∙ held in
    directory_kind c (k ++ n ∷ []) (first_directory (k ++ n ∷ []) m ns kind here)
  where
    first_directory : (j : Key) (m : Text) (ns : Key) (kind : Kind) → kind_at c (j ++ m ∷ ns) ≡ Some kind → is_dir_at c j ≡ true
    first_directory j m [] kind held = held_above c w j m kind held
    first_directory j m (p ∷ ns) kind held =
        let deeper = first_directory (j ++ m ∷ []) p ns kind (ap (kind_at c) (append_assoc j (m ∷ []) (p ∷ ns)) ∙ held) in
        all_above c w j (m ∷ []) deeper

-- the names after a key are proper and UTF-8
pub names_at : (c : Content) → IsContent c → (k names : Key) (kind : Kind) → kind_at c (k ++ names) ≡ Some kind → are_names names ≡ true
names_at c w k names kind held =
    let placed = list_all-contains (is_placed c) c.kinds (k ++ names, kind) w.placed (contains_kind_at c (k ++ names) kind held) in
    let all = (and_parts (are_names (k ++ names)) (is_dir_at c (parent_key (k ++ names))) placed).0 in
    (and_parts (are_names k) (are_names names) (sym (list_all-append (λ name. is_utf8 name && is_proper name) k names) ∙ all)).1

-- what is at the key
pub record Here (c : Content) (k : Key) (d : Bool) : Type 0 where
  pub kind : Kind
  pub held : kind_at c k ≡ Some kind
  pub is : is_dir kind ≡ d

pub Here-dir : (c : Content) (k : Key) (d : Bool) → Here c k d → is_dir_at c k ≡ d
Here-dir c k d at = is_dir_at-kind c k at.kind at.held ∙ at.is

pub Here-entry : (c : Content) → IsContent c → (k : Key) (e : DirEntry) → Contains (children c k) e → Here c (k ++ e.0 ∷ []) e.1
Here-entry c w k e in' = let is = IsChild-list_result c w k e in' in record { kind = is.kind; held = is.held; is = is.is_same }

pub held-deeper : (c : Content) (k : Key) (n : Text) (ns : Key) (found : Option Kind) → kind_at c ((k ++ n ∷ []) ++ ns)
    ≡ found → kind_at c (k ++ n ∷ ns) ≡ found
held-deeper c k n ns found h = ap (kind_at c) (sym (append_assoc k (n ∷ []) ns)) ∙ h

pub held-from_deeper : (c : Content) (k : Key) (n : Text) (ns : Key) (found : Option Kind) → kind_at c (k ++ n ∷ ns) ≡
    found → kind_at c ((k ++ n ∷ []) ++ ns) ≡ found
held-from_deeper c k n ns found h = ap (kind_at c) (append_assoc k (n ∷ []) ns) ∙ h
