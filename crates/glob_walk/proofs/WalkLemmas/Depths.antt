-- In a plain walk over a content each directory is below the one before it.
use Rattle.std.proofs.Common.{◌≡◌, ⊎_elim, ℕ, zero, suc, ◌+◌, ◌<◌, ◌≤◌, Bool, true, false, cond, not, ◌&&◌, ◌||◌, List, [], ◌∷◌, ◌++◌}
use Rattle.std.proofs.Common.{length, drop, take, get_or, set, Option, Some, None, IsTrue, refl, ap, sym, subst, ◌∙◌, arith}
use Rattle.std.specs.Prelude.{Contains, IsPermutation, string_bytes, unwrap_or, ⊤}
use Rattle.std.specs.List.{All, list_all}
use Rattle.std.specs.Path.{cur_dir, has_no_slash, root_dir}
use Rattle.std.proofs.lemmas.Bool.{and_parts, both_ways, leb-false}
use Rattle.std.proofs.lemmas.List.{drop_more, length-append, length-map, length-take}
use Rattle.std.proofs.lemmas.List.Sorted.{Contains-permutation, IsPermutation-sym}
use Rattle.std.proofs.Math.ListN.{drop_of_length-le}
use Rattle.glob_text.specs.Characters.{dot, slash}
use Rattle.glob_text.specs.Pieces.{begins_with, is_empty}
use Rattle.glob_text.specs.Text.{Text}
use Rattle.glob_tree.specs.Answers.{entries_of, names_of, IsEntriesAnswer}
use Rattle.glob_tree.specs.Content.{Content, Key, DirEntry, ListAnswer, Entries, Fails, NoDirectory, is_content, kind_at, list_result}
use Rattle.glob_tree.specs.Content.{look_of, look_result}
use Rattle.glob_tree.specs.Looks.{is_directory, is_there}
use Rattle.glob_tree.specs.Paths.{child}
use Rattle.glob_tree.specs.declared.kind.Kind.{Kind}
use Rattle.glob_tree.specs.declared.tree.Entry.{Entry}
use Rattle.glob_tree.specs.declared.tree.Look.{Look}
use Rattle.glob_tree.proofs.ContentLemmas.Contents.{IsContent, IsContent-from_test, IsChild-list_result}
use Rattle.glob_tree.proofs.ContentLemmas.Directories.{LeadsTo, LeadsTo-from_looked, ListsAs, ListsAs-from_leads, Read, Unreadable}
use Rattle.glob_tree.proofs.ContentLemmas.Directories.{directory_kind, resolve_listed}
use Rattle.glob_tree.proofs.ContentLemmas.Membership.{Contains-cases, Contains-head, Contains-nil, Contains-tail}
use Rattle.glob_walk.specs.Components.{Wild, is_current_or_parent, is_literal, is_recursive}
use Rattle.glob_walk.specs.Goal.{are_plain, is_plain_component}
use Rattle.glob_walk.specs.Walks.{levels}
use Rattle.glob_walk.specs.Private.Depths.{AreDeep, IsDeepPath, IsFrameDeep, IsNextDeep, IsPlainAt, IsPlainFrom}
use Rattle.glob_walk.specs.Private.Depths.{IsStateDeep, IsTaskDeep, is_special}
use Rattle.glob_walk.specs.Private.Frames.{first_cursor, is_done, is_done_at}
use Rattle.glob_walk.specs.Private.Tasks.{is_accepted, IsOpened}
use Rattle.glob_walk.specs.declared.frame.Cursor.{Cursor}
use Rattle.glob_walk.specs.declared.frame.Cursor.TheVariants.{Parent, Current, At, Inside}
use Rattle.glob_walk.specs.declared.frame.Frame.{Frame}
use Rattle.glob_walk.specs.declared.plan.Plan.{Plan}
use Rattle.glob_walk.specs.declared.task.Accepted.{Accepted}
use Rattle.glob_walk.specs.declared.task.Task.{Task}
use Rattle.glob_walk.specs.declared.task.TaskState.{TaskState}
use Rattle.glob_walk.specs.declared.task.TaskState.TheVariants.{Seen, Unseen}
use Rattle.glob_walk.proofs.GoalLemmas.ListingFinds.{IsOwnName, look_result-own, own_name, resolve-own}
use Rattle.glob_walk.proofs.GoalLemmas.NamedPaths.{LeadsTo-start}
use Rattle.glob_walk.proofs.ListingLemmas.ComponentKinds.{kind-Wild, literal_not_recursive}
use Rattle.glob_walk.proofs.ListingLemmas.Descending.{key_depth}
use Rattle.glob_walk.proofs.WalkLemmas.Listings.{contains_moved}
use Rattle.glob_walk.proofs.WalkLemmas.Literals.{undotted_kind}
use Rattle.glob_walk.proofs.WalkLemmas.Stacking.{last_split, set_last, front_last}

-- the components after a plain one are plain, and so are the components after `**` and one more
after_one : (t : Text) (ts : List Text) → is_recursive t ≡ false → are_plain false (t ∷ ts) ≡ true → are_plain false ts ≡ true
after_one t ts other h =
    subst (λ r. are_plain r ts ≡ true) other (and_parts (is_plain_component false t) (are_plain (is_recursive t) ts) h).1

after_run : (r t : Text) (ts : List Text) → is_recursive t ≡ false → are_plain false (r ∷ t ∷ ts) ≡ true → are_plain false ts ≡ true
after_run r t ts other h =
    let one = and_parts (is_plain_component false r) (are_plain (is_recursive r) (t ∷ ts)) h in
    let two = and_parts (is_plain_component (is_recursive r) t) (are_plain (is_recursive t) ts) one.1 in
    subst (λ b. are_plain b ts ≡ true) other two.1

module _ {A : Type 0} (plan : Plan A) (number : ℕ) (within : number < length plan.components.items) where
  -- a component that met an entry leaves plain ones
  pub met_plain : (recursive : Bool) (next : ℕ) (t : Text) → next ≡ cond recursive (number + 1) number
      → drop next plan.components.items ≡ t ∷ drop (next + 1) plan.components.items → IsPlainAt plan recursive number
      → IsPlainFrom plan (next + 1)
  met_plain false next t is at h =
      let here : drop number plan.components.items ≡ t ∷ drop (next + 1) plan.components.items =
      ap (λ n. drop n plan.components.items) (sym is) ∙ at in
      after_one t (drop (next + 1) plan.components.items) (kind-Wild t (subst (IsOpened false) here h.opens)).1
      (subst (λ ts. are_plain false ts ≡ true) here h.plain)
  met_plain true next t is at h =
      let r = get_or plan.components.items number [] in
      let here : drop number plan.components.items ≡ r ∷ t ∷ drop (next + 1) plan.components.items =
      drop_more plan.components.items number [] within
      ∙ ap (λ ts. r ∷ ts) (ap (λ n. drop n plan.components.items) (sym is) ∙ at) in
      after_run r t (drop (next + 1) plan.components.items) (subst (IsOpened true) here h.opens).1
      (subst (λ ts. are_plain false ts ≡ true) here h.plain)

-- a plain component looks for neither `..` nor `.`
pub first_named : (recursive : Bool) (ts : List Text) → IsOpened recursive ts → are_plain false ts ≡ true →
    is_special (first_cursor ts) ≡ false
first_named recursive [] opens plain = absurd opens
first_named false (t ∷ ts) opens plain =
    let here = (and_parts (is_plain_component false t) (are_plain (is_recursive t) ts) plain).0 in
    let parts = and_parts (not (is_empty t) && not (is_current_or_parent t)) (is_literal t || not (begins_with dot t) || false) here in
    by_test (is_literal t) (begins_with dot t) (kind-Wild t opens).0 parts.1
  where
    by_test : (b d : Bool) → b ≡ false → (b || not d || false) ≡ true → is_special (cond d Parent (At 0)) ≡ false
    by_test true d wild h = absurd (both_ways true wild refl)
    by_test false true wild h = absurd (both_ways false refl h)
    by_test false false wild h = refl
first_named true (t ∷ ts) opens plain = ap (λ b. is_special (cond b Parent (At 0))) (undotted_kind t opens.0)

-- the entries of a listing, by their names
abbrev pub IsNamed : ListAnswer → Text → Type 0
IsNamed (Entries es) name = (d : Bool) × Contains es (name, d)
IsNamed (Fails kind) name = ⊥
IsNamed NoDirectory name = ⊤

in_names : (es : List DirEntry) (name : Text) → Contains (names_of es) name → (d : Bool) × Contains es (name, d)
in_names [] name in' = absurd (Contains-nil name in')
in_names (e ∷ es) name in' = ⊎_elim
    (λ same. (e.1, subst (λ n. Contains (e ∷ es) (n, e.1)) same (Contains-head e es)))
    (λ later. let (d, held) = in_names es name later in (d, Contains-tail e es (name, d) held))
    (Contains-cases e.0 (names_of es) name in')

name_of : (es : List DirEntry) (e : DirEntry) → Contains es e → Contains (names_of es) e.0
name_of [] e in' = absurd (Contains-nil e in')
name_of (x ∷ es) e in' = ⊎_elim
    (λ same. subst (λ y. Contains (names_of (x ∷ es)) y.0) same (Contains-head x.0 (names_of es)))
    (λ later. Contains-tail x.0 (names_of es) e.0 (name_of es e later))
    (Contains-cases x es e in')

pub named : {A : Type 0} (c : Content) (path : Text) (kinds : Bool) (es sorted : List (Entry A))
    → IsEntriesAnswer kinds (list_result c path) (entries_of es) → IsPermutation es sorted → (e : DirEntry)
    → Contains (entries_of sorted) e → IsNamed (list_result c path) e.0
named {A} c path kinds es sorted answer moved e in' = of_answer kinds (list_result c path) answer
  where
    held : Contains (entries_of es) e
    held = contains_moved es sorted moved e in'

    of_answer : (k : Bool) (a : ListAnswer) → IsEntriesAnswer k a (entries_of es) → IsNamed a e.0
    of_answer true (Entries xs) h = (e.1, Contains-permutation (entries_of es) xs e (IsPermutation-sym xs (entries_of es) h) held)
    of_answer false (Entries xs) h = in_names xs e.0 (Contains-permutation (names_of (entries_of es)) (names_of xs) e.0
        (IsPermutation-sym (names_of xs) (names_of (entries_of es)) h.0) (name_of (entries_of es) e held))
    of_answer true (Fails kind) h = absurd h
    of_answer false (Fails kind) h = absurd h
    of_answer true NoDirectory h = tt
    of_answer false NoDirectory h = tt

pub IsDeepPath-fewer : (c : Content) (n m : ℕ) (path : Text) → m ≤ n → IsDeepPath c n path → IsDeepPath c m path
IsDeepPath-fewer c n m path few p = record {
  key = p.key;
  kind = p.kind;
  leads = p.leads;
  held = p.held;
  deep = omega (arith, few, p.deep);
}

pub IsNextDeep-fewer : {A : Type 0} (c : Content) (plan : Plan A) (n m : ℕ) (next : Option (Task A)) → m ≤ n
    → IsNextDeep c plan n next → IsNextDeep c plan m next
IsNextDeep-fewer c plan n m None few h = tt
IsNextDeep-fewer {A} c plan n m (Some t) few h = record { plain = h.plain; deep = of_state t.state h.deep }
  where
    of_state : (s : TaskState) → IsStateDeep c n (string_bytes t.path) s → IsStateDeep c m (string_bytes t.path) s
    of_state (Unseen w) d = λ yes'. IsDeepPath-fewer c n m (string_bytes t.path) few (d yes')
    of_state (Seen b) d = IsDeepPath-fewer c n m (string_bytes t.path) few d

-- the walk goes on at a path that is there
pub seen_deep : {A : Type 0} (c : Content) (plan : Plan A) (n number : ℕ) (path other : Text) (d : Bool) → path ≡ other
    → IsPlainFrom plan number → IsDeepPath c n other → IsTaskDeep c plan n number path (Seen d)
seen_deep c plan n number path other d same plain deep = record { plain = plain; deep = subst (IsDeepPath c n) (sym same) deep }

-- an entry has one more name than its directory
pub entry_deep : (c : Content) → IsContent c → (n : ℕ) (path name : Text) → is_directory (look_result c path) ≡ true
    → IsNamed (list_result c path) name → IsDeepPath c n path → IsDeepPath c (n + 1) (child path name)
entry_deep c w n path name directory in' p =
    let (k, at) = LeadsTo-from_looked c path directory in
    let same : p.key ≡ k = ap (λ o. unwrap_or o p.key) (sym p.leads ∙ at.resolved) in
    of_key k at (omega (arith, p.deep, ap length same)) (ListsAs-from_leads c path k at)
  where
    of_key : (k : Key) → LeadsTo c path k → n ≤ length k → ListsAs c path k → IsDeepPath c (n + 1) (child path name)
    of_key k at deep (Read entries answer) =
        let (d, held) = subst (λ a. IsNamed a name) answer in' in
        let is = IsChild-list_result c w k (name, d) held in
        record {
          key = k ++ name ∷ [];
          kind = is.kind;
          leads = resolve_listed c w path k at (name, d) held;
          held = is.held;
          deep = omega (arith, deep, length-append k (name ∷ []));
        }
    of_key k at deep (Unreadable kind entries answer) = absurd (subst (λ a. IsNamed a name) answer in')

-- the start is there
pub start_deep : (c : Content) → IsContent c → (rooted : Bool) → IsDeepPath c 0 (cond rooted root_dir cur_dir)
start_deep c w rooted = by_root rooted
  where
    from_leads : (path : Text) (k : Key) → LeadsTo c path k → IsDeepPath c 0 path
    from_leads path k at =
        let (kind, held) = directory_kind c k at.directory in
        record { key = k; kind = kind; leads = at.resolved; held = held; deep = omega arith }

    by_root : (b : Bool) → IsDeepPath c 0 (cond b root_dir cur_dir)
    by_root true = from_leads root_dir [] (LeadsTo-start c w (slash ∷ []))
    by_root false = from_leads cur_dir c.current (LeadsTo-start c w [])

list_all-drop : (p : Text → Bool) (n : ℕ) (ts : List Text) → list_all p ts ≡ true → list_all p (drop n ts) ≡ true
list_all-drop p zero ts h = h
list_all-drop p (suc n) [] h = ap (list_all p) (drop_of_length-le [] {i = suc n} (omega arith))
list_all-drop p (suc n) (t ∷ ts) h = list_all-drop p n ts (and_parts (p t) (list_all p ts) h).1

-- a literal component leads down, if it leads anywhere
pub literal_deep : {A : Type 0} (c : Content) (plan : Plan A) (number n : ℕ) (path : Text) (d : Bool) (t : Text) (w : Accepted)
    → IsTrue (is_content c) → drop number plan.components.items ≡ t ∷ drop (number + 1) plan.components.items
    → is_literal t ≡ true → ((seen : Look) → is_accepted w seen ≡ cond (is_current_or_parent t) d (is_there seen))
    → IsPlainFrom plan number → IsDeepPath c n path → IsTaskDeep c plan n (number + 1) (child path t) (Unseen w)
literal_deep {A} c plan number n path d t w content at literal same plain p = record {
  plain = after_one t (drop (number + 1) plan.components.items) (literal_not_recursive t literal) here;
  deep = λ yes'. of_kind (kind_at c (p.key ++ t ∷ [])) refl (found yes');
}
  where
    here : are_plain false (t ∷ drop (number + 1) plan.components.items) ≡ true
    here = subst (λ ts. are_plain false ts ≡ true) at plain

    flat : has_no_slash t ≡ true
    flat = (and_parts (has_no_slash t) (list_all has_no_slash (drop (number + 1) plan.components.items))
        (subst (λ ts. list_all has_no_slash ts ≡ true) at (list_all-drop has_no_slash number plan.components.items plan.names))).0

    own : IsOwnName t
    own = own_name false t (and_parts (is_plain_component false t) (are_plain (is_recursive t)
        (drop (number + 1) plan.components.items)) here).0 flat

    found : is_accepted w (look_result c (child path t)) ≡ true → is_there (look_of (kind_at c (p.key ++ t ∷ []))) ≡ true
    found yes' =
        ap is_there (sym (look_result-own c path p.key t (IsContent-from_test c content) own p.leads))
        ∙ sym (ap (λ b. cond b d (is_there (look_result c (child path t)))) own.special)
        ∙ sym (same (look_result c (child path t)))
        ∙ yes'

    of_kind : (o : Option Kind) → kind_at c (p.key ++ t ∷ []) ≡ o → is_there (look_of o) ≡ true → IsDeepPath c n (child path t)
    of_kind None e there = absurd (both_ways false refl there)
    of_kind (Some kind) e there = record {
      key = p.key ++ t ∷ [];
      kind = kind;
      leads = resolve-own c path p.key t kind (IsContent-from_test c content) own p.leads e;
      held = e;
      deep = omega (arith, p.deep, length-append p.key (t ∷ []));
    }

module _ {A : Type 0} (c : Content) (plan : Plan A) where
  deep_push : (fs : List (Frame A)) (f : Frame A) (n m : ℕ) → m ≡ n + length fs → AreDeep c plan n fs → IsFrameDeep c plan m f
      → AreDeep c plan n (fs ++ f ∷ [])
  deep_push [] f n m is h p = (subst (λ k. IsFrameDeep c plan k f) (omega (arith, is)) p, tt)
  deep_push (g ∷ fs) f n m is h p = (h.0, deep_push fs f (n + 1) m (omega (arith, is)) h.1 p)

  deep_front : (fs gs : List (Frame A)) (n : ℕ) → AreDeep c plan n (fs ++ gs) → AreDeep c plan n fs
  deep_front [] gs n h = tt
  deep_front (f ∷ fs) gs n h = (h.0, deep_front fs gs (n + 1) h.1)

  deep_end : (fs : List (Frame A)) (f : Frame A) (n m : ℕ) → m ≡ n + length fs → AreDeep c plan n (fs ++ f ∷ []) → IsFrameDeep c plan m f
  deep_end [] f n m is h = subst (λ k. IsFrameDeep c plan k f) (omega (arith, is)) h.0
  deep_end (g ∷ fs) f n m is h = deep_end fs f (n + 1) m (omega (arith, is)) h.1

  -- a directory that is put on top
  pub deep_opened : (fs : List (Frame A)) (f : Frame A) → AreDeep c plan 0 fs → IsFrameDeep c plan (length fs) f
      → AreDeep c plan 0 (fs ++ f ∷ [])
  deep_opened fs f h p = deep_push fs f 0 (length fs) (omega arith) h p

  -- the last directory, at number n
  module _ (fs : List (Frame A)) (n : ℕ) (f g : Frame A) (h : n + 1 ≡ length fs) (is : f ≡ get_or fs n f) (deep : AreDeep c plan 0 fs) where
    counted : n ≡ 0 + length (take n fs)
    counted = omega (arith, h, length-take n fs)

    whole : AreDeep c plan 0 (take n fs ++ f ∷ [])
    whole = subst (AreDeep c plan 0) (last_split fs n f h is) deep

    pub deep_last : IsFrameDeep c plan n f
    deep_last = deep_end (take n fs) f 0 n counted whole

    -- takes a step
    pub deep_step : IsFrameDeep c plan n g → AreDeep c plan 0 (set fs n g)
    deep_step p = subst (AreDeep c plan 0) (sym (set_last fs n g h))
        (deep_push (take n fs) g 0 n counted (deep_front (take n fs) (f ∷ []) 0 whole) p)

    -- it takes its last step
    pub deep_rest : (rest : List (Frame A)) → rest ≡ take n (set fs n g) → AreDeep c plan 0 rest
    deep_rest rest popped = subst (AreDeep c plan 0) (sym (popped ∙ front_last fs n g h)) (deep_front (take n fs) (f ∷ []) 0 whole)

  some_left : (m : ℕ) (p : Cursor) → is_special p ≡ false → is_done_at m p ≡ false → 0 < m
  some_left m Parent s d = absurd (both_ways true s refl)
  some_left m Current s d = absurd (both_ways true s refl)
  some_left m (At i) s d = omega (arith, leb-false m i d)
  some_left m (Inside i) s d = omega (arith, leb-false m i d)

  some_entry : (es : List DirEntry) → 0 < length es → (e : DirEntry) × Contains es e
  some_entry [] l = absurd (omega arith)
  some_entry (e ∷ es) l = (e, Contains-head e es)

  -- the last directory has an entry, which is deeper than all directories
  frame_below : (n : ℕ) (f : Frame A) → IsFrameDeep c plan n f → is_done f ≡ false → n + 1 < levels c
  frame_below n f p going =
      let (e, in') = some_entry (entries_of f.entries.items) (simp length-map (some_left (length f.entries.items)
      f.cursor p.named going)) in
      let below = p.entries e in' in
      omega (arith, below.deep, key_depth c below.key below.kind below.held)

  -- so there are no more directories than the longest key has names
  pub deep_few : (fs : List (Frame A)) → AreDeep c plan 0 fs → All (λ f. is_done f ≡ false) fs → length fs < levels c
  deep_few [] h going = omega arith
  deep_few (f ∷ fs) h going = omega (arith, from f fs 0 h going)
    where
      from : (f : Frame A) (fs : List (Frame A)) (n : ℕ) → AreDeep c plan n (f ∷ fs) → All (λ f. is_done f ≡ false) (f ∷ fs)
          → n + length (f ∷ fs) < levels c
      from f [] n h going = omega (arith, frame_below n f h.0 (going 0 f (omega arith)))
      from f (g ∷ fs) n h going = omega (arith, from g fs (n + 1) h.1 (λ k d lt. going (suc k) d (omega (arith, lt))))
