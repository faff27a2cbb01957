-- What is seen at a name of a directory of the content.
use Rattle.std.proofs.Common.{◌≡◌, ℕ, Bool, true, false, cond, List, [], ◌∷◌, ◌++◌, map, Option, Some, None, refl, ap, sym, ◌∙◌}
use Rattle.std.specs.Prelude.{is_some, option_map}
use Rattle.std.specs.Option.{ForSome}
use Rattle.std.proofs.lemmas.Bool.{and_parts, both_ways}
use Rattle.std.proofs.lemmas.List.{map-append}
use Rattle.glob_text.specs.Text.{Text}
use Rattle.glob_tree.specs.Answers.{entries_of}
use Rattle.glob_tree.specs.Content.{Content, DirEntry, Key, is_dir, is_dir_at, kind_at, kind_found, look_of, look_result}
use Rattle.glob_tree.specs.Looks.{is_directory}
use Rattle.glob_tree.specs.Paths.{child, is_proper}
use Rattle.glob_tree.specs.declared.kind.Kind.{Kind}
use Rattle.glob_tree.specs.declared.kind.Kind.TheVariants.{Dir, Shut, Other}
use Rattle.glob_tree.specs.declared.tree.Entry.{Entry}
use Rattle.glob_tree.specs.declared.tree.Look.{Look}
use Rattle.glob_tree.specs.declared.tree.Look.TheVariants as look
use Rattle.glob_tree.proofs.ContentLemmas.Contents.{IsContent}
use Rattle.glob_search.specs.Aims.{path_of}
use Rattle.glob_search.specs.Private.Listings.{looked}
use Rattle.glob_search.proofs.EngineLemmas.Paths.{child-found, directory-proper, names-proper, path_of-child, proper-parts}

-- the entry of a name at which something is
abbrev pub entry-of : Text → Option Kind → Option DirEntry
entry-of n o = option_map (λ kind. (n, is_dir kind)) o

abbrev pub seen-of : {A : Type 0} → Option (Entry A) → Option DirEntry
seen-of o = option_map (λ e. (e.name, e.is_dir)) o

abbrev pub seen-entry : Text → Look → Option DirEntry
seen-entry n seen = Some (n, is_directory seen)

pub look-found : (c : Content) (path : Text) → look_result c path ≡ look_of (kind_found c path)
unfolding look_result
look-found c path = refl

pub look-kind : (kind : Kind) → is_directory (look_of (Some kind)) ≡ is_dir kind
look-kind Dir = refl
look-kind (Shut kind) = refl
look-kind Other = refl

-- the entry that was found
pub entry-of_entry : {A : Type 0} (o : Option (Entry A)) (e : Entry A) → o ≡ Some e → seen-of o ≡ Some (e.name, e.is_dir)
entry-of_entry o e is = ap seen-of is

abbrev pub unit : {X : Type 0} → Option X → ℕ
unit o = cond (is_some o) 1 0

pub unit-of : {X : Type 0} (o : Option X) (x : X) → o ≡ Some x → unit o ≡ 1
unit-of o x is = ap unit is

pub entries-pushed : {A : Type 0} (es more : List (Entry A)) (e : Entry A) → more ≡ es ++ e ∷ [] → entries_of more ≡
    entries_of es ++ (e.name, e.is_dir) ∷ []
entries-pushed {A} es more e is = let f : Entry A → DirEntry = λ x. (x.name, x.is_dir) in ap (map f) is ∙ map-append f es (e ∷ [])

pub kind-learned : (c : Content) (path : Text) (kind : Kind) (seen : Look) (r : Bool) → seen ≡ look_result c path
    → kind_found c path ≡ Some kind → r ≡ is_directory seen
    → ForSome (Some r) (λ d. d ≡ is_dir kind)
kind-learned c path kind seen r saw found is d same =
    let one : r ≡ d = cc in
    sym one ∙ is ∙ ap is_directory (saw ∙ look-found c path ∙ ap look_of found) ∙ look-kind kind

module _ (c : Content) (w : IsContent c) (names : Key) where
  -- nothing has a name that is not proper
  pub looked-improper : (n : Text) → is_proper n ≡ false → looked c names n ≡ None
  looked-improper n improper = by_kind (kind_at c (c.current ++ (names ++ n ∷ []))) refl
    where
      by_kind : (o : Option Kind) → kind_at c (c.current ++ (names ++ n ∷ [])) ≡ o → entry-of n o ≡ None
      by_kind None is = refl
      by_kind (Some kind) is =
          let last = (proper-parts names (n ∷ []) (names-proper c w c.current (names ++ n ∷ []) kind is)).1 in
          absurd (both_ways (is_proper n) improper (and_parts (is_proper n) true last).0)

  module _ (there : is_dir_at c (c.current ++ names) ≡ true) (path : Text) (is : path ≡ path_of names) (n : Text)
      (proper : is_proper n ≡ true) where
    pub seen-found : (text : Text) → text ≡ child path n → kind_found c text ≡ kind_at c (c.current ++ (names ++ n ∷ []))
    seen-found text named =
        ap (kind_found c) (named ∙ ap (λ t. child t n) is ∙ sym (path_of-child names n (directory-proper c w names there)))
        ∙ child-found c w names n there proper

    pub looked-missing : (text : Text) → text ≡ child path n → look_result c text ≡ look.Missing → looked c names n ≡ None
    looked-missing text named seen = by_kind (kind_at c (c.current ++ (names ++ n ∷ [])))
        (sym (look-found c text ∙ ap look_of (seen-found text named)) ∙ seen)
      where
        by_kind : (o : Option Kind) → look_of o ≡ look.Missing → entry-of n o ≡ None
        by_kind None h = refl
        by_kind (Some Dir) h = absurd (cc)
        by_kind (Some (Shut kind)) h = absurd (cc)
        by_kind (Some Other) h = absurd (cc)

    pub looked-there : (text : Text) → text ≡ child path n → (seen : Look) → seen ≡ look_result c text → (seen ≡ look.Missing → ⊥)
        → seen-entry n seen ≡ looked c names n
    looked-there text named seen saw some = by_kind (kind_at c (c.current ++ (names ++ n ∷ [])))
        (saw ∙ look-found c text ∙ ap look_of (seen-found text named))
      where
        by_kind : (o : Option Kind) → seen ≡ look_of o → seen-entry n seen ≡ entry-of n o
        by_kind None h = absurd (some h)
        by_kind (Some kind) h = let f : Bool → Option DirEntry = λ d. Some (n, d) in ap f (ap is_directory h ∙ look-kind kind)
