-- The paths of a walk that a loop takes one by one, as `for item in paths` or over the items of `walk_in`.
use Rattle.std.proofs.Common.{◌≡◌, ℕ, ◌↔◌, ◌<◌, length, get_or, List, [], ◌∷◌, ◌++◌, map, filter_map, Contains, Option}
use Rattle.std.proofs.Common.{Some, None, Result, Ok, refl, ap, sym, subst, ◌∙◌, arith, append_assoc, ⊎_elim}
use Rattle.std.proofs.lemmas.List.{map-append, length-map, get_or-map}
use Rattle.std.proofs.lemmas.List.Elements.{Contains-append_right, Contains-get_or}
use Rattle.std.specs.Path.{path_buf_bytes}
use Rattle.std.specs.declared.path.buf.PathBuf.{PathBuf}
use Rattle.std.specs.declared.io.ErrorKind.{ErrorKind}
use Rattle.glob_text.specs.Text.{Text}
use Rattle.glob_tree.specs.Answers.{IsTold}
use Rattle.glob_tree.specs.Content.{Content}
use Rattle.glob_pattern.specs.declared.options.MatchOptions.{MatchOptions}
use Rattle.glob_walk.specs.declared.error.GlobError.{GlobError}
use Rattle.glob_walk.specs.Goal.{goal, IsOrderly, ReachesTexts}
use Rattle.glob_walk.specs.Laws.{IsSensitiveWalk}
use Rattle.glob_walk.specs.Walks.{listing, Item, Found, Unread, Mark, items, cost, paths, Gives, LimitAt, NoMemory}
use Rattle.glob_walk.specs.Walks.{Answers, AreItems, Outcome, outcome}
use Rattle.glob_walk.specs.Iterating.{Goes, Walking}
use Rattle.glob_walk.specs.Machines.{Progress, Saying, Says, Ends, HasGiven, GivesNext, left_of, next_saying}
use Rattle.glob_walk.proofs.ListingLemmas.Marks.{items-append}
use Rattle.glob_walk.proofs.WalkLemmas.Giving.{upto_end, upto_limit}
use Rattle.glob_walk.proofs.GoalLemmas.Clauses.{reaches_goal, comes_in_order, IsBeginning-whole}

-- the items of a walk that has no error among them
abbrev pub found_items : List Text → List Item
found_items found = map Found found

-- each answer is one of these paths
abbrev pub AreFound : {A : Type 0} → Answers A → List Text → Type 0
AreFound answers found = AreItems answers (found_items found)

-- one more path
pub AreFound-more : {A : Type 0} (answers : Answers A) (found : List Text) (path : PathBuf A)
    → AreFound answers found → AreFound (answers ++ Ok path ∷ []) (found ++ path_buf_bytes path ∷ [])
AreFound-more answers found path are =
    let more : List Item = found_items (path_buf_bytes path ∷ []) in
    map-append outcome answers (Ok path ∷ [])
    ∙ ap (λ xs. xs ++ map Gives more) are
    ∙ sym (ap (map Gives) (map-append Found found (path_buf_bytes path ∷ [])) ∙ map-append Gives (found_items found) more)

-- the item that an answer says
item_of : Outcome → Option Item
item_of (Gives item) = Some item
item_of (LimitAt path) = None
item_of NoMemory = None

-- answers say one list of items
pub AreItems-same : {A : Type 0} (answers : Answers A) (is others : List Item) → AreItems answers is → AreItems answers others → is ≡ others
unfolding item_of
AreItems-same answers is others said same = sym (kept is) ∙ ap (filter_map item_of) (sym said ∙ same) ∙ kept others
  where
    kept : (is : List Item) → filter_map item_of (map Gives is) ≡ is
    kept [] = refl
    kept (i ∷ is) = ap (λ js. i ∷ js) (kept is)

-- their paths
pub paths-found : (found : List Text) → paths (found_items found) ≡ found
paths-found [] = refl
paths-found (path ∷ found) = ap (λ xs. path ∷ xs) (paths-found found)

-- none of them is an error
pub none_unread : (found : List Text) (path : Text) (kind : ErrorKind) → ¬ (Contains (found_items found) (Unread path kind))
none_unread [] path kind h = absurd (omega (arith, h.1))
none_unread (p ∷ found) path kind h =
    let read = get_or-map Found (p ∷ found) h.0 p (Unread path kind) (subst (λ n. h.0 < n) (length-map (p ∷ found) Found) h.1) in
    absurd (cc)

-- where no item is an error, what a walk finds of its goal is all of it
pub goal-found : (c : Content) (o : MatchOptions) (pattern : Text) (given : List Item) (found : List Text) (IsWhole : Type 0)
    → given ≡ found_items found → IsWhole → ReachesTexts c pattern (goal c o pattern) IsWhole given
    → (path : Text) → Contains found path ↔ Contains (goal c o pattern) path
goal-found c o pattern given found IsWhole is whole reaches path =
    let same : paths given ≡ found = ap paths is ∙ paths-found found in (
      λ h. reaches.sound path (subst (λ xs. Contains xs path) (sym same) h),
      λ h. ⊎_elim (λ one. subst (λ xs. Contains xs path) same one)
          (λ hidden. absurd (none_unread found hidden.path hidden.kind
          (subst (λ is. Contains is (Unread hidden.path hidden.kind)) is hidden.unread)))
          (reaches.complete whole path h),
    )

-- The paths of all items of a plain walk, where no item is an error: they are exactly the goal,
pub goal-listed : (c : Content) (o : MatchOptions) (pattern : Text) → IsSensitiveWalk c o pattern → (found : List Text)
    → found_items found ≡ items (listing c o pattern)
    → (path : Text) → Contains found path ↔ Contains (goal c o pattern) path
goal-listed c o pattern plain found whole =
    goal-found c o pattern (found_items found) found _ refl whole
    (reaches_goal c o pattern plain (found_items found) _ (IsBeginning-whole (found_items found)
    (items (listing c o pattern)) whole) (λ e. e))

-- they come once and in order, as far as the runs of `**` allow,
pub orderly-listed : (c : Content) (o : MatchOptions) (pattern : Text) → IsSensitiveWalk c o pattern →
    (found : List Text) → found_items found ≡ items (listing c o pattern)
    → IsOrderly pattern found
orderly-listed c o pattern plain found whole =
    subst (IsOrderly pattern) (paths-found found)
    (comes_in_order c o pattern plain.plain (found_items found) (IsBeginning-whole (found_items found) (items (listing c o pattern)) whole))

-- and they are the paths of the written listing.
pub paths-listed : (found : List Text) (ms : List Mark) → found_items found ≡ items ms → found ≡ paths (items ms)
paths-listed found ms whole = sym (paths-found found) ∙ ap paths whole

-- an answer of a walk without a refusal is an item
pub item-answered : {A : Type 0} (answers : Answers A) (is : List Item) → AreItems answers is → (answer : Result
    (PathBuf A) (GlobError A)) → Contains answers answer
    → (item : Item) × (outcome answer ≡ Gives item) × Contains is item
item-answered answers is are answer has =
    let d : Item = Found [] in
    let here : get_or (map outcome answers) has.0 NoMemory ≡ outcome (get_or answers has.0 answer) = get_or-map outcome
    answers has.0 answer NoMemory has.1 in
    let long : length is ≡ length answers = sym (length-map is Gives) ∙ sym (ap length are) ∙ length-map answers outcome in
    let within : has.0 < length is = subst (λ n. has.0 < n) (sym long) has.1 in
    let there : get_or (map Gives is) has.0 NoMemory ≡ Gives (get_or is has.0 d) = get_or-map Gives is has.0 d NoMemory within in (
      get_or is has.0 d,
      ap outcome (sym has.2) ∙ sym here ∙ ap (λ xs. get_or xs has.0 NoMemory) are ∙ there,
      Contains-get_or is has.0 d within,
    )

-- What a loop over a walk has been given so far, where no answer was an error: these paths of the written listing.
pub record FindsSoFar {X : Type 0} {P : Progress} (tells : X → Option Content) (first now : Walking X P) (found : List Text) : Type 0 where
  pub content : tells now.tree ≡ tells first.tree
  pub limit : now.machine.limit ≡ first.machine.limit
  pub given : (c : Content) → IsTold (tells first.tree) c → (ms : List Mark) → HasGiven ms c [] first.machine
      → HasGiven ms c (found_items found) now.machine

-- nothing was given yet
pub FindsSoFar-start : {X : Type 0} {P : Progress} (tells : X → Option Content) (first : Walking X P) → FindsSoFar tells first first []
FindsSoFar-start tells first = record { content = refl; limit = refl; given = λ c told ms begun. begun }

module _ {X : Type 0} {P : Progress} (asks : X → ℕ) (tells : X → Option Content) (first now new : Walking X P)
    (found : List Text) (finds : FindsSoFar tells first now found) where
  -- what `next` said is the next of the written listing
  next_given : (s : Saying) → Goes asks tells now s new → (c : Content) → IsTold (tells first.tree) c →
      (ms : List Mark) → HasGiven ms c [] first.machine
      → GivesNext ms c (found_items found) s new.machine
  next_given s goes c told ms begun = goes.gives c (finds.content ∙ told.0, told.1) ms (found_items found) (finds.given c told ms begun)

  -- one more path is given
  FindsSoFar-more : (path : Text) → Goes asks tells now (Says (Gives (Found path))) new → FindsSoFar tells first new (found ++ path ∷ [])
  FindsSoFar-more path goes = record {
    content = goes.content ∙ finds.content;
    limit = goes.counts.limit ∙ finds.limit;
    given = λ c told ms begun.
        subst (λ is. HasGiven ms c is new.machine) (sym (map-append Found found (path ∷ [])))
        (next_given (Says (Gives (Found path))) goes c told ms begun).0;
  }

  -- so it is where `next` returned it
  pub FindsSoFar-next : {A : Type 0} (answer : Option (Result (PathBuf A) (GlobError A))) (item : Result (PathBuf A)
      (GlobError A)) (path : PathBuf A)
      → answer ≡ Some item → item ≡ Ok path → Goes asks tells now (next_saying answer) new → FindsSoFar tells first new
      (found ++ path_buf_bytes path ∷ [])
  FindsSoFar-next answer item path some ok goes =
      FindsSoFar-more (path_buf_bytes path) (subst (λ r. Goes asks tells now (next_saying r) new) (some ∙ ap Some ok) goes)

  -- where `next` returned `None`, nothing more comes: the paths found are those of the written listing
  pub FindsSoFar-whole : {A : Type 0} (answer : Option (Result (PathBuf A) (GlobError A))) → answer ≡ None
      → Goes asks tells now (next_saying answer) new
      → (c : Content) → IsTold (tells first.tree) c → (ms : List Mark) → HasGiven ms c [] first.machine → found_items found ≡ items ms
  FindsSoFar-whole answer none goes c told ms begun =
      (upto_end ms new.machine.spent (found_items found) (next_given Ends (subst (λ r. Goes asks tells now
      (next_saying r) new) none goes) c told ms begun).0).0

  -- a directory that could not be listed is an item of the written listing
  pub FindsSoFar-unread : (path : Text) (kind : ErrorKind) → Goes asks tells now (Says (Gives (Unread path kind))) new
      → (c : Content) → IsTold (tells first.tree) c
      → (ms : List Mark) → HasGiven ms c [] first.machine → Contains (items ms) (Unread path kind)
  FindsSoFar-unread path kind goes c told ms begun =
      let u = (next_given (Says (Gives (Unread path kind))) goes c told ms begun).0.upto in
      let all : items ms ≡ found_items found ++ (Unread path kind ∷ items (left_of c new.machine)) =
      ap items u.whole ∙ items-append u.done (left_of c new.machine) ∙ ap (λ is. is ++ items (left_of c new.machine)) (sym u.same)
      ∙ append_assoc (found_items found) (Unread path kind ∷ []) (items (left_of c new.machine)) in
      subst (λ is. Contains is (Unread path kind)) (sym all)
      (Contains-append_right (found_items found) (Unread path kind ∷ items (left_of c new.machine)) (Unread path kind)
      (0, omega arith, refl))

  -- where the limit is reached, it is less than what the written listing costs
  pub FindsSoFar-limit : (path : Text) → Goes asks tells now (Says (LimitAt path)) new → (c : Content) → IsTold (tells first.tree) c
      → (ms : List Mark) → HasGiven ms c [] first.machine → first.machine.limit < cost ms
  FindsSoFar-limit path goes c told ms begun =
      let (at, rest, upto) = next_given (Says (LimitAt path)) goes c told ms begun in
      let less = (upto_limit ms new.machine.spent (found_items found) path rest upto).0 in
      omega (arith, less, at, goes.counts.limit, finds.limit)
