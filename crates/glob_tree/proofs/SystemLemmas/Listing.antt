-- What a listing returns, by the bytes of the opened directory.
use Rattle.std.proofs.Common.{◌≡◌, Bool, true, false, map, ⊎_elim, List, [], ◌∷◌, ◌++◌, Option, Some, None, refl, ap, sym, subst, ◌∙◌}
use Rattle.std.specs.Prelude.{Contains, IsPermutation, option_and_then}
use Rattle.std.specs.List.{list_all, filter}
use Rattle.std.specs.Path.{with_separator}
use Rattle.std.specs.Str.{is_utf8}
use Rattle.std.proofs.lemmas.Bool.{and_from, both_ways}
use Rattle.std.proofs.lemmas.List.{append-nil}
use Rattle.std.proofs.lemmas.List.Sorted.{IsPermutation-map, IsPermutation-sym, Contains-permutation}
use Rattle.glob_text.specs.Text.{Text}
use Rattle.glob_tree.specs.Answers.{names_of}
use Rattle.glob_tree.specs.Content.{Content, Key, same_key, is_content, kind_at, is_dir, is_dir_at, step, resolve}
use Rattle.glob_tree.specs.Content.{look_of, look_result, DirEntry, children, ListAnswer, Entries, Fails, NoDirectory}
use Rattle.glob_tree.specs.Content.{list_of, list_found, list_result}
use Rattle.glob_tree.specs.FileSystems.{FileSystem, has_directory_links, has_hidden, strays_at, strays_found}
use Rattle.glob_tree.specs.Followed.{entry_followed, answer_followed, list_followed, has_strays}
use Rattle.glob_tree.specs.Looks.{is_directory}
use Rattle.glob_tree.specs.Paths.{join, is_proper}
use Rattle.glob_tree.specs.Private.Listing.{is_dir_in, said_entry, said_entries, is_text_name, are_text_names}
use Rattle.glob_tree.specs.declared.kind.Kind.{Kind}
use Rattle.glob_tree.specs.declared.kind.Kind.TheVariants.{Dir, Shut, Other}
use Rattle.glob_tree.proofs.ContentLemmas.Contents.{IsContent, IsContent-from_test, IsChild-list_result}
use Rattle.glob_tree.proofs.ContentLemmas.Directories.{LeadsTo, IsName-from_proper, is_dir_at-kind, step_name}
use Rattle.glob_tree.proofs.ContentLemmas.Membership.{Contains-head, Contains-tail, Contains-cases, Contains-nil}
use Rattle.glob_tree.proofs.ContentLemmas.Resolving.{resolve_join, resolve_join_none, step_here, step_none}
use Rattle.glob_tree.proofs.SystemLemmas.Finding.{stat_looked}

-- a separator at the end of a path does not change its listing
pub list_result-join : (c : Content) (path : Text) → list_result c (join path []) ≡ list_result c path
unfolding list_result
list_result-join c path = from_key (resolve c path) refl
  where
    no_directory : (k : Key) (o : Option Kind) → kind_at c k ≡ o → is_dir_at c k ≡ false → NoDirectory ≡ list_of c k o
    no_directory k None is non = refl
    no_directory k (Some Dir) is non = absurd (both_ways true (sym (is_dir_at-kind c k Dir is) ∙ non) refl)
    no_directory k (Some (Shut kind)) is non = absurd (both_ways true (sym (is_dir_at-kind c k (Shut kind) is) ∙ non) refl)
    no_directory k (Some Other) is non = refl

    by_kind : (k : Key) (b : Bool) → is_dir_at c k ≡ b → list_found c (step c [] k) ≡ list_found c (Some k)
    by_kind k true d = ap (list_found c) (step_here c k [] d refl)
    by_kind k false d = ap (list_found c) (step_none c k [] d) ∙ no_directory k (kind_at c k) refl d

    from_key : (o : Option Key) → resolve c path ≡ o → list_found c (resolve c (join path [])) ≡ list_found c (resolve c path)
    from_key None h = ap (list_found c) (resolve_join_none c path h ∙ sym h)
    from_key (Some k) h = ap (list_found c) (resolve_join c path [] k h refl) ∙ by_kind k (is_dir_at c k) refl ∙ ap (list_found c) (sym h)

is_entries : ListAnswer → Bool
is_entries (Entries es) = true
is_entries (Fails kind) = false
is_entries NoDirectory = false

entries_in : ListAnswer → List DirEntry
entries_in (Entries es) = es
entries_in (Fails kind) = []
entries_in NoDirectory = []

-- a path to a directory that can be listed
pub record Lists (c : Content) (path : Text) (es : List DirEntry) : Type 0 where
  pub k : Key
  pub leads : LeadsTo c path k
  pub all : children c k ≡ es

pub Lists-from_result : (c : Content) (path : Text) (es : List DirEntry) → list_result c path ≡ Entries es → Lists c path es
unfolding list_result is_entries entries_in
Lists-from_result c path es h = from_key (resolve c path) refl h
  where
    from_kind : (k : Key) (o : Option Kind) → resolve c path ≡ Some k → kind_at c k ≡ o → list_of c k o ≡ Entries es → Lists c path es
    from_kind k None r is h = absurd (both_ways false refl (ap is_entries h))
    from_kind k (Some Dir) r is h = record {
      k = k;
      leads = record {
        resolved = r;
        directory = is_dir_at-kind c k Dir
            is;
      };
      all = ap entries_in h;
    }
    from_kind k (Some (Shut kind)) r is h = absurd (both_ways false refl (ap is_entries h))
    from_kind k (Some Other) r is h = absurd (both_ways false refl (ap is_entries h))

    from_key : (o : Option Key) → resolve c path ≡ o → list_found c o ≡ Entries es → Lists c path es
    from_key None r h = absurd (both_ways false refl (ap is_entries h))
    from_key (Some k) r h = from_kind k (kind_at c k) r refl h

looked : (kind : Kind) → is_directory (look_of (Some kind)) ≡ is_dir kind
looked Dir = refl
looked (Shut kind) = refl
looked Other = refl

-- a look at an entry agrees with the entry
entry_looked : (c : Content) → IsContent c → (path : Text) (k : Key) → LeadsTo c path k → (l : DirEntry) → Contains (children c k) l
    → is_directory (look_result c (join path l.0)) ≡ l.1
unfolding look_result
entry_looked c w path k at l in' =
    let is = IsChild-list_result c w k l in' in
    let name = IsName-from_proper l.0 is.proper in
    ap (λ o. is_directory (look_of (option_and_then (kind_at c) o))) (resolve_join c path l.0 k at.resolved name.plain
    ∙ step_name c k l.0 name at.directory is.kind is.held)
    ∙ ap (λ o. is_directory (look_of o)) is.held
    ∙ looked is.kind
    ∙ is.is_same

pub joined : (path name : Text) → join path [] ++ name ≡ join path name
unfolding join
joined path name = ap (λ p. p ++ name) (append-nil (with_separator path))

-- the entries made from names are the directory's entries
all_said : (c : Content) (path : Text) (es : List DirEntry) → ((l : DirEntry) → Contains es l → is_directory
    (look_result c (path ++ l.0)) ≡ l.1)
    → said_entries (is_dir_in c path) (names_of es) ≡ es
unfolding said_entries
all_said c path [] h = refl
all_said c path (e ∷ es) h = λ i. (e.0, h e (Contains-head e es) i) ∷ all_said c path es (λ l in'. h l (Contains-tail e es l in')) i

said_moved : (said : Text → Bool) (names more : List Text) → IsPermutation names more
    → IsPermutation (said_entries said names) (said_entries said more)
unfolding said_entries
said_moved said names more moved = IsPermutation-map (said_entry said) names more moved

-- the entries, if the content has every link
pub entries_kept : (c : Content) → is_content c ≡ true → (path : Text) (es : List DirEntry) → list_result c path ≡ Entries es
    → (names : List Text)
    → IsPermutation (names_of es) names → IsPermutation es (said_entries (is_dir_in c (join path [])) names)
entries_kept c w path es at names moved =
    let of = Lists-from_result c path es at in
    let each : (l : DirEntry) → Contains es l → is_directory (look_result c (join path [] ++ l.0)) ≡ l.1 = λ l in'.
    ap (λ p. is_directory (look_result c p)) (joined path l.0) ∙ entry_looked c (IsContent-from_test c w) path of.k
    of.leads l (subst (λ ls. Contains ls l) (sym of.all) in') in
    subst (λ ls. IsPermutation ls (said_entries (is_dir_in c (join path [])) names)) (all_said c (join path []) es each)
    (said_moved (is_dir_in c (join path [])) (names_of es) names moved)

-- a tree that follows links lists the content, if no link points to a directory and each name is UTF-8
pub list_followed-plain : (f : FileSystem) → is_content f.content ≡ true → has_directory_links f ≡ false → has_strays f.strays ≡ false
    → has_hidden f.hidden ≡ false → (path : Text)
    → list_followed f path ≡ list_result f.content path
unfolding list_followed strays_found
list_followed-plain f w non texts bare path = by_strays f.strays refl texts ∙ by_answer (list_result f.content path) refl
  where
    at_key : (ss : List (Key × Text)) → f.strays ≡ ss → ss ≡ [] → (o : Option Key) → strays_at f o ≡ []
    at_key ss is none None = refl
    at_key ss is none (Some k) = ap (λ ss. map (λ s. s.1) (filter (λ s. same_key k s.0) ss)) (is ∙ none)

    by_strays : (ss : List (Key × Text)) → f.strays ≡ ss → has_strays ss ≡ false
        → answer_followed f path (list_result f.content path) (strays_at f (resolve f.content path)) ≡ answer_followed f path
        (list_result f.content path) []
    by_strays [] is none = ap (answer_followed f path (list_result f.content path)) (at_key [] is refl (resolve f.content path))
    by_strays (s ∷ ss) is none = absurd (both_ways true none refl)

    all_looked : (es : List DirEntry) → ((l : DirEntry) → Contains es l → is_directory (look_result f.content (join path l.0)) ≡ l.1)
        → map (entry_followed f path) es ≡ es
    all_looked [] h = refl
    all_looked (e ∷ es) h =
        λ i. (e.0, (stat_looked f non bare (join path e.0) ∙ h e (Contains-head e es)) i) ∷ all_looked es
        (λ l in'. h l (Contains-tail e es l in')) i

    by_answer : (a : ListAnswer) → list_result f.content path ≡ a
        → answer_followed f path (list_result f.content path) [] ≡ list_result f.content path
    by_answer (Entries es) at =
        let of = Lists-from_result f.content path es at in
        let all = all_looked es
        (λ l in'. entry_looked f.content (IsContent-from_test f.content w) path of.k of.leads l
        (subst (λ ls. Contains ls l) (sym of.all) in')) in
        ap (λ a. answer_followed f path a []) at ∙ ap Entries all ∙ sym at
    by_answer (Fails kind) at = ap (λ a. answer_followed f path a []) at ∙ sym at
    by_answer NoDirectory at = ap (λ a. answer_followed f path a []) at ∙ sym at

all_texts : (names : List Text) → ((n : Text) → Contains names n → is_text_name n ≡ true) → are_text_names names ≡ true
unfolding are_text_names
all_texts [] h = refl
all_texts (n ∷ names) h = and_from (is_text_name n) (list_all is_text_name names) (h n (Contains-head n names))
    (all_texts names (λ m in'. h m (Contains-tail n names m in')))

-- each name is the name of an entry
entry_named : (es : List DirEntry) (n : Text) → Contains (names_of es) n → (l : DirEntry) × Contains es l × (l.0 ≡ n)
entry_named [] n in' = absurd (Contains-nil n in')
entry_named (e ∷ es) n in' = ⊎_elim
    (λ same. (e, Contains-head e es, same))
    (λ later. let (l, there, is) = entry_named es n later in (l, Contains-tail e es l there, is))
    (Contains-cases e.0 (names_of es) n in')

-- the names read from a directory are UTF-8 and proper
pub texts_read : (c : Content) → is_content c ≡ true → (path : Text) (es : List DirEntry) → list_result c path ≡
    Entries es → (names : List Text)
    → IsPermutation (names_of es) names → are_text_names names ≡ true
texts_read c w path es at names moved = all_texts names (λ n in'.
    let of = Lists-from_result c path es at in
    let (l, there, same) = entry_named es n (Contains-permutation names (names_of es) n (IsPermutation-sym
    (names_of es) names moved) in') in
    let is = IsChild-list_result c (IsContent-from_test c w) of.k l (subst (λ ls. Contains ls l) (sym of.all) there) in
    ap is_text_name (sym same) ∙ and_from (is_utf8 l.0) (is_proper l.0) is.utf8 is.proper)
