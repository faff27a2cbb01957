-- What follows at a directory that is listed.
use Rattle.std.proofs.Common.{◌≡◌, ℕ, zero, suc, ◌+◌, ◌-◌, ◌<◌, ◌≤◌, Bool, true, false, cond, not, List, [], ◌∷◌, ◌++◌}
use Rattle.std.proofs.Common.{length, drop, replicate, refl, ap, sym, subst, ◌∙◌, arith, append_assoc}
use Rattle.std.specs.Prelude.{flat_map}
use Rattle.std.specs.Path.{cur_dir, parent_dir}
use Rattle.std.specs.declared.io.ErrorKind.{ErrorKind}
use Rattle.std.proofs.lemmas.List.{append-nil, length-replicate, map-append, replicate-append-replicate}
use Rattle.std.proofs.lemmas.List.Sorted.{length_permutation}
use Rattle.glob_text.specs.Text.{Text}
use Rattle.glob_text.specs.Characters.{dot}
use Rattle.glob_tree.specs.Paths.{child, join}
use Rattle.glob_text.specs.Pieces.{begins_with}
use Rattle.glob_walk.specs.Walks.{Mark, Work, Give, Unread, enter, meet, is_entered, list_directory, after_listing}
use Rattle.glob_walk.specs.Walks.{Next, look_up, special_names}
use Rattle.glob_tree.specs.Content.{Content, Key, DirEntry, ListAnswer, Entries, Fails, list_result, look_result, sorted_entries, children}
use Rattle.glob_tree.specs.Looks.{is_directory}
use Rattle.glob_pattern.specs.declared.options.MatchOptions.{MatchOptions}
use Rattle.glob_tree.proofs.ContentLemmas.Contents.{IsContent}
use Rattle.glob_tree.proofs.ContentLemmas.Directories.{LeadsTo-from_looked, ListsAs, LeadsTo, LeadsTo-list_result}
use Rattle.glob_tree.proofs.ContentLemmas.Directories.{is_directory-look_result, ListsAs-from_leads, Read, Unreadable}
use Rattle.glob_walk.proofs.Ascending.{sorted_entries-keep}
use Rattle.glob_walk.proofs.ListingLemmas.ComponentKinds.{kind-Wild}
use Rattle.glob_walk.proofs.ListingLemmas.Descending.{enter-wild, enter-recursive}
use Rattle.glob_walk.specs.declared.plan.Plan.{Plan}
use Rattle.glob_walk.specs.declared.frame.Cursor.{Cursor}
use Rattle.glob_walk.specs.declared.frame.Cursor.TheVariants.{Parent, At}
use Rattle.glob_walk.specs.Private.Tasks.{enter_from, IsOpened}
use Rattle.glob_walk.specs.Private.Frames.{take_at, first_of, entries_marks, special_marks, special_after, cursor_marks}
use Rattle.glob_walk.specs.Private.Frames.{cursor_unmet, first_cursor, IsEntrySound}
use Rattle.glob_tree.specs.Answers.{IsListFault}
use Rattle.glob_walk.specs.Private.Turns.{works, Charges, StopsAt}
use Rattle.glob_walk.proofs.WalkLemmas.Entering.{meet-next}
use Rattle.glob_walk.specs.Components.{is_recursive, begins_recursive, matches_name}
use Rattle.glob_walk.proofs.WalkLemmas.Literals.{undotted_kind, takes_same}
use Rattle.glob_walk.proofs.WalkLemmas.Listings.{IsInOrder, IsHeld, IsCut}

works_replicate : (n : ℕ) (path : Text) → replicate n (Work path) ≡ works (replicate n path)
works_replicate zero path = refl
works_replicate (suc n) path = ap (λ ms. Work path ∷ ms) (works_replicate n path)

second_of : Content → MatchOptions → Bool → Bool → List Text → Text → DirEntry → List Mark
second_of c o dirs false ts path e = []
second_of c o dirs true ts path e = cond (is_entered o e.0 e.1) (enter c o dirs ts (child path e.0) true) []

-- the look at a special name
abbrev special_at : Content → MatchOptions → Next → (t path name : Text) → List Mark
special_at c o next t path name = cond (matches_name o t name) (look_up c true next (join path name)) []

-- what comes before the entries
before : Content → MatchOptions → Bool → Bool → List Text → Text → List Mark
before c o dirs recursive [] path = []
before c o dirs false (t ∷ ts) path = special_names c o (enter c o dirs ts) t path
before c o dirs true (t ∷ ts) path = []

-- what follows at an entry, under `**`
met_same : (c : Content) (o : MatchOptions) (dirs : Bool) (t : Text) (ts : List Text) (path name : Text) (d : Bool)
    → begins_recursive ts ≡ false
    → meet c o dirs ts (child path name) name d ≡ first_of c o dirs true (t ∷ ts) path (name, d)
met_same c o dirs t [] path name d last = refl
met_same c o dirs t (u ∷ us) path name d last =
    meet-next c o dirs u us (child path name) name d ∙ ap (λ b. cond b (enter c o dirs us (child path name) d) [])
    (takes_same o u name last)

module _ (c : Content) (w : IsContent c) (o : MatchOptions) (dirs : Bool) where
  -- the directory is listed, and each entry has its two parts
  opened : (recursive : Bool) (ts : List Text) (path : Text) → IsOpened recursive ts → is_directory (look_result c path) ≡ true
      → enter c o dirs ts path true
      ≡ list_directory c path (before c o dirs recursive ts path) (λ name d. first_of c o dirs recursive ts path
      (name, d) ++ second_of c o dirs recursive ts path (name, d))
  unfolding before second_of
  opened recursive [] path h d = absurd h
  opened false (t ∷ ts) path h d =
      enter-wild c o dirs t ts path h
      ∙ ap (λ each. list_directory c path (special_names c o (enter c o dirs ts) t path) each)
      (λ i name d. (ap (λ b. cond b (enter c o dirs ts (child path name) d) []) (takes_same o t name (kind-Wild t h).1)
      ∙ sym (append-nil (take_at o (enter c o dirs ts) t (child path name) name d))) i)
  opened true (t ∷ ts) path h d =
      let (k, at) = LeadsTo-from_looked c path d in
      enter-recursive c o dirs w t ts path k h.0 h.1 at
      ∙ ap (λ each. list_directory c path [] each)
      (λ i name d. met_same c o dirs t ts path name d h.1 i ++ cond (is_entered o name d) (enter c o dirs (t ∷ ts)
      (child path name) true) [])

pub length-sorted_entries : (es : List DirEntry) → length (sorted_entries es) ≡ length es
length-sorted_entries es = length_permutation es (sorted_entries es) (sorted_entries-keep es)

-- the limit does not allow all of the units
stops_within : (n : ℕ) (path : Text) (rest : List Mark) (spent limit : ℕ) → spent ≤ limit → limit < spent + n
    → StopsAt (works (replicate n path) ++ rest) spent path limit
stops_within n path rest spent limit h few =
    let k : ℕ = limit - spent in
    let e : n ≡ k + suc (n - k - 1) = omega (arith, h, few) in
    record {
      rest = works (replicate (n - k - 1) path) ++ rest;
      charges = record {
        paths = replicate k path;
        front = ap (λ m. works (replicate m path) ++ rest) e ∙ ap (λ ps. works ps ++ rest)
            (sym (replicate-append-replicate k (suc (n - k - 1)) path))
            ∙ ap (λ ms. ms ++ rest) (map-append Work (replicate k path) (path ∷ replicate (n - k - 1) path))
            ∙ append_assoc (works (replicate k path)) (Work path ∷ works (replicate (n - k - 1) path)) rest;
        units = omega (arith, h, length-replicate k path);
      };
    }

module _ {A : Type 0} (c : Content) (w : IsContent c) (plan : Plan A) (recursive : Bool) (component : ℕ) (path : Text)
    (opens : IsOpened recursive (drop component plan.components.items)) (d : is_directory (look_result c path) ≡ true)
  where
    each : Text → Bool → List Mark
    each name e = first_of c plan.options plan.directories recursive (drop component plan.components.items) path
        (name, e) ++ second_of c plan.options plan.directories recursive (drop component plan.components.items) path
        (name, e)

    leading : List Mark
    leading = before c plan.options plan.directories recursive (drop component plan.components.items) path

    lists : (a : ListAnswer) → list_result c path ≡ a → enter_from c plan component path true ≡ Work path ∷
        after_listing path leading each a
    unfolding leading each
    lists a is = opened c w plan.options plan.directories recursive (drop component plan.components.items) path opens d
        ∙ ap (λ b. Work path ∷ after_listing path leading each b) is

    -- the first cursor decides what comes before the entries
    placed : (es : List DirEntry) → leading ++ flat_map (λ e. each e.0 e.1) es ≡ cursor_marks c plan recursive component
        path es (first_cursor (drop component plan.components.items))
    unfolding leading each before second_of
    placed es = by_run recursive (drop component plan.components.items) opens refl
      where
        parts_marks : Bool → List Text → List Mark
        parts_marks r ts = flat_map (λ e. first_of c plan.options plan.directories r ts path e ++ second_of c
            plan.options plan.directories r ts path e) es

        by_test : (b : Bool) (xs ys zs : List Mark) (t : Text) (ts : List Text)
            → special_at c plan.options (enter c plan.options plan.directories ts) t path parent_dir ≡ special_marks c
            plan component path parent_dir
            → special_at c plan.options (enter c plan.options plan.directories ts) t path cur_dir ≡ special_marks c
            plan component path cur_dir
            → zs ≡ entries_marks c plan false component path es
            → cond (not b) [] (special_at c plan.options (enter c plan.options plan.directories ts) t path parent_dir
            ++ (special_at c plan.options (enter c plan.options plan.directories ts) t path cur_dir ++ [])) ++ zs
            ≡ cursor_marks c plan false component path es (cond b Parent (At 0))
        by_test true xs ys zs t ts p q r =
            let current = special_at c plan.options (enter c plan.options plan.directories ts) t path cur_dir in
            append_assoc (special_at c plan.options (enter c plan.options plan.directories ts) t path parent_dir) (current ++ []) zs
            ∙ (λ i. p i ++ ((append-nil current ∙ q) i ++ r i))
        by_test false xs ys zs t ts p q r = r

        special_same : (t : Text) (ts : List Text) (name : Text) → is_recursive t ≡ false → drop component plan.components.items ≡ t ∷ ts
            → special_at c plan.options (enter c plan.options plan.directories ts) t path name ≡ special_marks c plan component path name
        special_same t ts name wild q =
            ap (λ b. cond b (look_up c true (enter c plan.options plan.directories ts) (join path name)) [])
            (takes_same plan.options t name wild)
            ∙ ap (λ us. special_after c plan.options plan.directories us path name) (sym q)

        by_run : (r : Bool) (ts : List Text) → IsOpened r ts → drop component plan.components.items ≡ ts
            → before c plan.options plan.directories r ts path ++ parts_marks r ts ≡ cursor_marks c plan r component path
            es (first_cursor ts)
        by_run true [] h q = ap (λ ts. parts_marks true ts) (sym q)
        by_run true (t ∷ ts) h q =
            ap (λ ts. parts_marks true ts) (sym q)
            ∙ ap (λ b. cursor_marks c plan true component path es (cond b Parent (At 0))) (sym (undotted_kind t h.0))
        by_run false [] h q = ap (λ ts. parts_marks false ts) (sym q)
        by_run false (t ∷ ts) h q = by_test (begins_with dot t) [] [] (parts_marks false (t ∷ ts)) t ts
            (special_same t ts parent_dir (kind-Wild t h).1 q)
            (special_same t ts cur_dir (kind-Wild t h).1 q)
            (ap (λ us. parts_marks false us) (sym q))

    -- the directory can be listed, or not
    pub by_listing : {P : Type 0} → ((es : List DirEntry) → list_result c path ≡ Entries es → P) → ((kind : ErrorKind)
        → list_result c path ≡ Fails kind → P) → P
    by_listing {P} read fails = let (k, at) = LeadsTo-from_looked c path d in of_answer k (ListsAs-from_leads c path k at)
      where
        of_answer : (k : Key) → ListsAs c path k → P
        of_answer k (Read held is) = read (children c k) is
        of_answer k (Unreadable kind held is) = fails kind is

    pub opened_fault : (kind : ErrorKind) → IsListFault (list_result c path) kind → enter_from c plan component path true
        ≡ Work path ∷ Give (Unread path kind) ∷ []
    opened_fault kind fault = by_listing
        (λ es is. absurd (subst (λ a. IsListFault a kind) is fault))
        (λ wanted is. lists (Fails wanted) is ∙ ap (λ x. Work path ∷ Give (Unread path x) ∷ [])
        (sym (subst (λ a. IsListFault a kind) is fault)))

    -- the frame's marks come after the units of the listing
    pub opened_entries : (answer : List DirEntry) → IsInOrder (list_result c path) answer
        → enter_from c plan component path true ≡ works (replicate (suc (length answer)) path) ++ cursor_marks c plan
        recursive component path answer (first_cursor (drop component plan.components.items))
    opened_entries answer order = by_listing
        (λ es is.
        let flat : List Mark = flat_map (λ e. each e.0 e.1) (sorted_entries es) in
        lists (Entries es) is
        ∙ ap (λ ms. Work path ∷ ms) (append_assoc (replicate (length es) (Work path)) leading flat)
        ∙ ap (λ ms. Work path ∷ (ms ++ (leading ++ flat))) (works_replicate (length es) path)
        ∙ ap (λ n. Work path ∷ (works (replicate n path) ++ (leading ++ flat))) (sym (length-sorted_entries es))
        ∙ ap (λ ms. Work path ∷ (works (replicate (length (sorted_entries es)) path) ++ ms)) (placed (sorted_entries es))
        ∙ ap (λ as'. works (replicate (suc (length as')) path) ++ cursor_marks c plan recursive component path as'
        (first_cursor (drop component plan.components.items))) (sym (subst (λ a. IsInOrder a answer) is order)))
        (λ kind is. absurd (subst (λ a. IsInOrder a answer) is order))

    -- the unit of the listing comes first
    pub opened_unit : enter_from c plan component path true ≡ Work path ∷ drop 1 (enter_from c plan component path true)
    opened_unit = by_listing
        (λ es is. lists (Entries es) is ∙ ap (λ ms. Work path ∷ drop 1 ms) (sym (lists (Entries es) is)))
        (λ kind is. lists (Fails kind) is ∙ ap (λ ms. Work path ∷ drop 1 ms) (sym (lists (Fails kind) is)))

    pub opened_cut : (rest : List Mark) (spent limit : ℕ) → spent ≤ limit → IsCut (list_result c path) spent limit
        → StopsAt (drop 1 (enter_from c plan component path true) ++ rest) spent path limit
    opened_cut rest spent limit h cut = by_listing
        (λ es is.
        let flat : List Mark = flat_map (λ e. each e.0 e.1) (sorted_entries es) in
        let few : limit < spent + length es = subst (λ a. IsCut a spent limit) is cut in
        subst (λ ms. StopsAt ms spent path limit)
        (sym (append_assoc (works (replicate (length es) path)) (leading ++ flat) rest)
        ∙ ap (λ ms. ms ++ rest)
        (ap (λ ms. ms ++ (leading ++ flat)) (sym (works_replicate (length es) path))
        ∙ sym (ap (drop 1) (lists (Entries es) is) ∙ append_assoc (replicate (length es) (Work path)) leading flat)))
        (stops_within (length es) path ((leading ++ flat) ++ rest) spent limit h (omega (arith, few))))
        (λ kind is. absurd (subst (λ a. IsCut a spent limit) is cut))

    -- an entry reported as a directory is a directory
    pub held_sound : (e : DirEntry) → (e.1 ≡ true → IsHeld (list_result c path) e) → IsEntrySound c path e
    held_sound e held directory =
        let (k, at) = LeadsTo-from_looked c path d in
        of_answer k at (ListsAs-from_leads c path k at)
      where
        of_answer : (k : Key) → LeadsTo c path k → ListsAs c path k → is_directory (look_result c (child path e.0)) ≡ true
        of_answer k at (Read list is) =
            is_directory-look_result c (child path e.0) (k ++ e.0 ∷ [])
            (LeadsTo-list_result c w path k at e (subst (λ a. IsHeld a e) is (held directory)) directory)
        of_answer k at (Unreadable wanted list is) = absurd (subst (λ a. IsHeld a e) is (held directory))

    -- with these entries, the frame has what follows at the directory
    abbrev pub Opens : List DirEntry → Type 0
    Opens answer = enter_from c plan component path true
        ≡ works (replicate (suc (length answer)) path) ++ cursor_marks c plan recursive component path answer
        (first_cursor (drop component plan.components.items))

    pub opened_charges : (answer : List DirEntry) → Opens answer → (cursor : Cursor) (rest new : List Mark) (spent spent' : ℕ)
        → cursor ≡ first_cursor (drop component plan.components.items) → new ≡ cursor_marks c plan recursive component
        path answer cursor ++ rest → spent' ≡ spent + length answer
        → Charges (drop 1 (enter_from c plan component path true) ++ rest) spent new spent'
    opened_charges answer all cursor rest new spent spent' at is units = record {
      paths = replicate (length answer) path;
      front = ap (λ ms. drop 1 ms ++ rest) all
          ∙ append_assoc (works (replicate (length answer) path)) (cursor_marks c plan recursive component path answer
          (first_cursor (drop component plan.components.items))) rest
          ∙ ap (λ ms. works (replicate (length answer) path) ++ ms)
          (sym (is ∙ ap (λ p. cursor_marks c plan recursive component path answer p ++ rest) at));
      units = omega (arith, units, length-replicate (length answer) path);
    }

-- at first a directory has at most its own entries unmet
pub first_unmet : (n : ℕ) (dotted : Bool) (p : Cursor) → p ≡ cond dotted Parent (At 0) → cursor_unmet n p ≤ n
first_unmet n true p is = subst (λ q. cursor_unmet n q ≤ n) (sym is) (omega arith)
first_unmet n false p is = subst (λ q. cursor_unmet n q ≤ n) (sym is) (omega arith)

-- a failed listing leaves its error
pub listed_fault : {A : Type 0} (c : Content) (w : IsContent c) (plan : Plan A) (recursive : Bool) (component : ℕ)
    (path : Text) (opens : IsOpened recursive (drop component plan.components.items))
    (d : is_directory (look_result c path) ≡ true) (kind : ErrorKind) → IsListFault (list_result c path) kind → drop 1
    (enter_from c plan component path true) ≡ Give (Unread path kind) ∷ []
listed_fault c w plan recursive component path opens d kind fault = ap (drop 1) (opened_fault c w plan recursive
    component path opens d kind fault)
