-- Why a tree in memory refuses a key, and where it adds one.
use Rattle.std.proofs.Common.{◌≡◌, ℕ, ◌<◌, true, false, cond, not, ◌&&◌, List, [], ◌∷◌, ◌++◌, length, Option, Some}
use Rattle.std.proofs.Common.{None, refl, ap, sym, ◌∙◌, arith}
use Rattle.std.specs.Prelude.{bytes_eq, Bool, is_some}
use Rattle.std.specs.List.{list_all}
use Rattle.std.specs.Path.{root_dir}
use Rattle.std.specs.Str.{is_utf8}
use Rattle.std.proofs.lemmas.Bool.{and_parts, and_from, both_ways}
use Rattle.std.proofs.lemmas.List.Folds.{list_all-append}
use Rattle.std.proofs.lemmas.Option.{none-some, cond_some}
use Rattle.std.proofs.lemmas.List.{length_push, get_or_append_left}
use Rattle.std.proofs.lemmas.List.Elements.{Contains-get_or}
use Rattle.glob_text.specs.Text.{Text}
use Rattle.glob_tree.specs.Paths.{is_proper}
use Rattle.glob_text.specs.Pieces.{pieces}
use Rattle.glob_tree.specs.Content.{Content, Key, parent_key, kind_at, is_dir, is_dir_at, is_content, is_placed, are_distinct, child_key}
use Rattle.glob_tree.specs.Memory.{key_of, key_refusal, add_refusal, directory_refusal, current_refusal, directory_key}
use Rattle.glob_tree.specs.Private.Places.{IsPlace, IsDirectoryOf}
use Rattle.glob_tree.specs.Private.Nodes.{root_entry, entry_numbered, key_numbered, kind_numbered, rooted_content, content_at}
use Rattle.glob_tree.specs.Private.Numbers.{Leads}
use Rattle.glob_tree.specs.declared.kind.Kind.{Kind}
use Rattle.glob_tree.specs.declared.refusal.TreeRefusal.TheVariants.{NoParent, Taken, NoDirectory}
use Rattle.glob_tree.proofs.ContentLemmas.Directories.{is_dir_at-kind}
use Rattle.glob_tree.proofs.ContentLemmas.Contents.{IsContent-from_test, kind_at-entry, parent_key-append}
use Rattle.glob_tree.proofs.ContentLemmas.Extending.{is_content-extended}

-- the current directory does not change what is at a key
pub kind_any : (entries : List (Key × Kind)) (m n k : Key)
    → kind_at (record { kinds = entries; current = m }) k ≡ kind_at (record { kinds = entries; current = n }) k
unfolding kind_at
kind_any entries m n k = refl

pub is_dir_any : (entries : List (Key × Kind)) (m n k : Key)
    → is_dir_at (record { kinds = entries; current = m }) k ≡ is_dir_at (record { kinds = entries; current = n }) k
unfolding kind_at
is_dir_any entries m n k = refl

module _ (entries : List (Key × Kind)) (current : ℕ) (path names : Text) (directory : Key) (name : Text)
    (key : key_of path ≡ Some (pieces names)) (last : pieces names ≡ directory ++ name ∷ []) where
  abbrev c : Content
  c = content_at entries current

  refusal_at : add_refusal c path ≡ key_refusal c (Some (directory ++ name ∷ []))
  unfolding add_refusal
  refusal_at = ap (key_refusal c) (key ∙ ap Some last)

  parent_is : is_dir_at c (parent_key (directory ++ name ∷ [])) ≡ is_dir_at (rooted_content entries) directory
  parent_is = ap (is_dir_at c) (parent_key-append directory name) ∙ is_dir_any entries (key_numbered entries current) [] directory

  pub refused_no_parent : is_dir_at (rooted_content entries) directory ≡ false → add_refusal c path ≡ Some NoParent
  refused_no_parent d = refusal_at ∙ ap (λ b. cond (not b) (Some NoParent)
      (cond (is_some (kind_at c (directory ++ name ∷ []))) (Some Taken) None)) (parent_is ∙ d)

  pub refused_taken : (found : Option ℕ) → is_dir_at (rooted_content entries) directory ≡ true → Leads entries found
      (child_key (rooted_content entries) directory name) → is_some found ≡ true
      → add_refusal c path ≡ Some Taken
  refused_taken None d leads some = absurd (both_ways false refl some)
  refused_taken (Some n) d leads some =
      let (there, _) = cond_some (is_some (kind_at (rooted_content entries) (directory ++ name ∷ [])))
      (directory ++ name ∷ []) (key_numbered entries n) (sym leads.0) in
      refusal_at ∙ (λ i. cond (not ((parent_is ∙ d) i)) (Some NoParent)
      (cond ((ap is_some (kind_any entries (key_numbered entries current) [] (directory ++ name ∷ [])) ∙ there) i)
      (Some Taken) None))

  pub free_name : (found : Option ℕ) → Leads entries found (child_key (rooted_content entries) directory name)
      → is_some found ≡ false → kind_at c (directory ++ name ∷ []) ≡ None
  free_name (Some n) leads none = absurd (both_ways true none refl)
  free_name None leads none = kind_any entries (key_numbered entries current) [] (directory ++ name ∷ []) ∙ of_kind
      (kind_at (rooted_content entries) (directory ++ name ∷ [])) leads.0
    where
      of_kind : (o : Option Kind) → None ≡ (cond (is_some o) (Some (directory ++ name ∷ [])) None) → o ≡ None
      of_kind None h = refl
      of_kind (Some kind) h = absurd (none-some (directory ++ name ∷ []) h)

  pub a_place : (number : ℕ) (found : Option ℕ) → number < length entries → (key_numbered entries number) ≡ directory
      → is_dir (kind_numbered entries number) ≡ true
      → is_dir_at (rooted_content entries) directory ≡ true → list_all is_proper (pieces names) ≡ true → is_utf8 name ≡
      true → Leads entries found (child_key (rooted_content entries) directory name) → is_some found ≡ false
      → IsPlace c path number name
  a_place number found inside at d stands proper utf8 leads none = record {
    key = key ∙ ap Some (last ∙ ap (λ k. k ++ name ∷ []) (sym at));
    inside = inside;
    directory = d;
    utf8 = utf8;
    proper = (and_parts (is_proper name) true (and_parts (list_all is_proper directory) (is_proper name && true)
        (sym (list_all-append is_proper directory (name ∷ [])) ∙ ap (list_all is_proper) (sym last) ∙ proper)).1).0;
    allowed = refusal_at ∙ (λ i. cond (not ((parent_is ∙ stands) i)) (Some NoParent)
        (cond (is_some (free_name found leads none i)) (Some Taken) None));
    free = ap (λ k. kind_at c (k ++ name ∷ [])) at ∙ free_name found leads none;
  }

-- the content after a key was added
module _ (entries : List (Key × Kind)) (current : ℕ) (path : Text) (number : ℕ) (name : Text) (place : IsPlace
    (content_at entries current) path number name)
    (content : is_content (content_at entries current) ≡ true) (inside : current < length entries) (kind : Kind) where
  abbrev more : List (Key × Kind)
  more = entries ++ ((key_numbered entries number) ++ name ∷ [], kind) ∷ []

  pub inside_more : current < length more
  inside_more = omega (arith, inside, length_push entries ((key_numbered entries number) ++ name ∷ [], kind))

  current_stays : (key_numbered more current) ≡ (key_numbered entries current)
  current_stays = ap (λ e. e.0) (get_or_append_left entries (((key_numbered entries number) ++ name ∷ [], kind) ∷ [])
      root_entry current inside)

  pub is_content-more : is_content (content_at more current) ≡ true
  is_content-more =
      let is = IsContent-from_test (content_at entries current) content in
      let k = (key_numbered entries number) in
      let stands = is_dir_at-kind (content_at entries current) k (kind_numbered entries number) (kind_at-entry
      (content_at entries current) is (entry_numbered entries number) (Contains-get_or entries number root_entry
      place.inside)) ∙ place.directory in
      ap (λ key. is_content (record { kinds = more; current = key })) current_stays
      ∙ is_content-extended (content_at entries current) is k name kind stands place.utf8 place.proper place.free

-- a key without a directory does not become the current one
pub current_no_directory : (c : Content) (path : Text) (k : Key) → bytes_eq path root_dir ≡ false → key_of path ≡ Some
    k → is_dir_at c k ≡ false → current_refusal c path ≡ Some NoDirectory
unfolding current_refusal directory_key
current_no_directory c path k other key d =
    ap (λ b. directory_refusal c (cond b (Some []) (key_of path))) other ∙ ap (directory_refusal c) key ∙ ap
    (λ b. cond b None (Some NoDirectory)) d

-- the content stays well formed with another current directory
pub is_content-current : (entries : List (Key × Kind)) (current number : ℕ) → is_content (content_at entries current) ≡
    true → is_dir_at (content_at entries number) (key_numbered entries number) ≡ true
    → is_content (content_at entries number) ≡ true
unfolding is_content
is_content-current entries current number h d =
    let is = IsContent-from_test (content_at entries current) h in
    let c = content_at entries number in
    and_from (is_dir_at c [] && is_dir_at c c.current && list_all (is_placed c) entries) (are_distinct entries)
    (and_from (is_dir_at c [] && is_dir_at c c.current) (list_all (is_placed c) entries)
    (and_from (is_dir_at c []) (is_dir_at c c.current) (is_dir_any entries (key_numbered entries number)
    (key_numbered entries current) [] ∙ is.root) d)
    (placed_any ∙ is.placed))
    is.distinct
  where
    placed_any : list_all (is_placed (content_at entries number)) entries ≡ list_all (is_placed (content_at entries current)) entries
    placed_any = ap (λ (p : (Key × Kind) → Bool). list_all p entries) (λ i e. list_all
        (λ name. is_utf8 name && is_proper name) e.0 && is_dir_any entries (key_numbered entries number)
        (key_numbered entries current) (parent_key e.0) i)

module _ (entries : List (Key × Kind)) (current number : ℕ) (path : Text) (inside : number < length entries) where
  pub root_named : bytes_eq path root_dir ≡ true → entry_numbered entries number ≡ root_entry → is_content
      (content_at entries current) ≡ true → IsDirectoryOf (content_at entries current) path number
  unfolding directory_key
  root_named same root content = record {
    key = ap (λ b. cond b (Some []) (key_of path)) same ∙ ap (λ e. Some e.0) (sym root);
    inside = inside;
    directory = ap (λ e. is_dir_at (content_at entries current) e.0) root ∙ (IsContent-from_test (content_at entries current) content).root;
  }

  pub directory_named : (k : Key) → bytes_eq path root_dir ≡ false → key_of path ≡ Some k →
      (key_numbered entries number) ≡ k → is_dir_at (rooted_content entries) k ≡ true
      → IsDirectoryOf (content_at entries current) path number
  unfolding directory_key
  directory_named k other key at d = record {
    key = ap (λ b. cond b (Some []) (key_of path)) other ∙ key ∙ ap Some (sym at);
    inside = inside;
    directory = ap (is_dir_at (content_at entries current)) at ∙ is_dir_any entries (key_numbered entries current) [] k ∙ d;
  }
