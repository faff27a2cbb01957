-- A walk whose items are written as they come.
use Rattle.std.proofs.Common.{◌≡◌, ℕ, ◌<◌, ◌≤◌, ◌⊎◌, inl, inr, ⊎_elim, true, false, Option, List, [], ◌∷◌, ◌++◌, Bool}
use Rattle.std.proofs.Common.{Result, Ok, Err, refl, ap, sym, subst, ◌∙◌, append-nil, arith}
use Rattle.std.specs.Prelude.{⊤, if◌then◌else◌}
use Rattle.std.specs.Io.KnownBytes.{Appends}
use Rattle.std.specs.Path.{path_buf_bytes}
use Rattle.std.specs.declared.io.ErrorKind.{ErrorKind}
use Rattle.std.specs.declared.path.buf.PathBuf.{PathBuf}
use Rattle.std.proofs.KnownBytes.{Appends-nil}
use Rattle.glob_tree.specs.Answers.{IsTold}
use Rattle.glob_tree.specs.Content.{Content}
use Rattle.glob_walk.specs.Machines.{MachineState, Saying, AsksLook, AsksList, Says, Ends, StepGoes, HasGiven}
use Rattle.glob_walk.specs.Machines.{GivesNext, is_last, left_of, saying, step_units}
use Rattle.glob_lines.specs.Lines.{AppendsFront, ended_record, with_ends}
use Rattle.glob_walk.specs.Private.Walkers.{Walk}
use Rattle.glob_walk.specs.Walks.{Mark, Item, Found, Unread, items, cost, front, IsBeginning, Outcome, Gives, LimitAt}
use Rattle.glob_walk.specs.Walks.{NoMemory, outcome, error_outcome}
use Rattle.glob_text.specs.Text.{Text}
use Rattle.glob_walk.specs.declared.ending.End.{End}
use Rattle.glob_walk.specs.declared.error.GlobCause.{GlobCause}
use Rattle.glob_walk.specs.declared.error.GlobError.{GlobError}
use Rattle.glob_walk.specs.declared.machine.Step.{Step}
use Rattle.glob_walk.specs.declared.machine.Step.TheVariants as step
use Rattle.glob_walk.specs.declared.ending.End.TheVariants as last
use Rattle.glob_walk.specs.declared.error.GlobCause.TheVariants as cause
use Rattle.glob_walk.proofs.WalkLemmas.Giving.{upto_cut, upto_end, upto_limit}
use Rattle.glob_walk.proofs.ListingLemmas.Marks.{IsBeginning-append}
use Rattle.glob_console.specs.FoundPaths.{FindsPaths, FindsSomeBytes, GaveItems, has_any, has_unread, wanted_paths}
use Rattle.glob_console.specs.Private.Writing.{Queues, StepWrites, is_item_wanted, noting, step_record}
use Rattle.glob_console.proofs.ItemLemmas.{has_any-push, has_unread-found, has_unread-push, records_begin, records_push}
use Rattle.glob_console.proofs.ItemLemmas.{wanted_one, unwanted_one, wanted_push}
use Rattle.glob_console.proofs.WritingLemmas.{Queues-all, Queues-some, Queues-more, Queues-trans}
use Rattle.glob_console.specs.declared.find.findings.Findings.{Findings}

-- what holds for a walk from its beginning on, over a known content
abbrev pub Over : {X A : Type 0} → (X → Option Content) → X → MachineState (Walk A) → (List Mark → Content → Type 0) → Type 0
Over tells of first P = (c : Content) → IsTold (tells of) c → (ms : List Mark) → HasGiven ms c [] first → P ms c

-- the walk is still going on, or it ended and gave these items
abbrev pub GoesOn : {X A : Type 0} → (X → Option Content) → X → MachineState (Walk A) → List Item → MachineState (Walk A) → End → Type 0
GoesOn tells of first given walk e =
    ((e ≡ last.Done) × Over tells of first (λ ms c. HasGiven ms c given walk))
    ⊎ ((walk.over ≡ true) × Over tells of first (λ ms c. GaveItems ms first.limit e given))

-- A walk between two of its steps. The items before were written, or wait.
pub record Written {X A : Type 0} (end : ℕ) (f : Content → Text → Bool) (tells : X → Option Content) (of : X)
    (first : MachineState (Walk A)) (old : Option (List ℕ)) (tree : X) (walk : MachineState (Walk A))
    (findings : Findings) (held : Option (List ℕ)) (waiting : List ℕ) : Type 0 where
  pub given : List Item
  pub texts : List Text
  pub same : tells tree ≡ tells of
  pub limit : walk.limit ≡ first.limit
  pub queued : Queues old [] held waiting (with_ends end texts)
  pub path : findings.has_path ≡ has_any texts
  pub kept : Over tells of first (λ ms c. texts ≡ wanted_paths (f c) given)
  pub error : findings.has_error ≡ has_unread given
  pub begins : Over tells of first (λ ms c. IsBeginning given (items ms))
  pub going : GoesOn tells of first given walk findings.end

pub Written-first : {X A : Type 0} (end : ℕ) (f : Content → Text → Bool) (tells : X → Option Content) (of : X)
    (first : MachineState (Walk A)) (old : Option (List ℕ)) (findings : Findings)
    → findings.end ≡ last.Done → findings.has_path ≡ false → findings.has_error ≡ false → Written end f tells of first
    old of first findings old []
Written-first end f tells of first old findings done path error = record {
  given = [];
  texts = [];
  same = refl;
  limit = refl;
  queued = ([], Appends-nil old, refl);
  path = path;
  kept = λ c told ms begun. refl;
  error = error;
  begins = λ c told ms begun. (items ms, refl);
  going = inl (done, λ c told ms begun. begun);
}

begins_from : {A : Type 0} (c : Content) (ms : List Mark) (given : List Item) (walk : MachineState (Walk A))
    → HasGiven ms c given walk → IsBeginning given (items ms)
begins_from c ms given walk h =
    let u = h.upto in
    subst (λ js. IsBeginning js (items ms)) (sym u.same)
    (subst (λ l. IsBeginning (items u.done) (items l)) (sym u.whole) (IsBeginning-append u.done (left_of c walk)))

-- an error of a walk is not a path
abbrev IsNoPath : Outcome → Type 0
IsNoPath (Gives (Found p)) = ⊥
IsNoPath (Gives (Unread p k)) = ⊤
IsNoPath (LimitAt p) = ⊤
IsNoPath NoMemory = ⊤

no_path : {A : Type 0} (why : GlobCause) (e : GlobError A) → IsNoPath (error_outcome why e)
no_path cause.Read e = tt
no_path cause.Memory e = tt
no_path cause.Limit e = tt

-- one more step of the walk
module _ {X A : Type 0} (end : ℕ) (f : Content → Text → Bool) (tells : X → Option Content) (of : X)
    (first : MachineState (Walk A)) (old : Option (List ℕ)) (tree asked : X) (walk walk' : MachineState (Walk A))
    (n : ℕ) (findings : Findings) (held : Option (List ℕ)) (waiting : List ℕ)
    (w : Written end f tells of first old tree walk findings held waiting) (told : tells asked ≡ tells tree) where
  told_here : (c : Content) → IsTold (tells of) c → IsTold (tells tree) c
  told_here c is = (w.same ∙ is.0, is.1)

  told_after : (c : Content) → IsTold (tells of) c → IsTold (tells asked) c
  told_after c is = (told ∙ w.same ∙ is.0, is.1)

  abbrev pub Steps : Saying → Type 0
  Steps s = StepGoes (IsTold (tells tree)) n walk s walk'

  -- the step is the next of what is left, or the walk has ended
  goes_on : (s : Saying) → Steps s
      → ((findings.end ≡ last.Done) × Over tells of first (λ ms c. GivesNext ms c w.given s walk'))
      ⊎ ((s ≡ Ends) × Over tells of first (λ ms c. GaveItems ms first.limit findings.end w.given))
  goes_on s steps =
      ⊎_elim
      (λ going. inl (going.0, λ c told ms begun. steps.gives c (told_here c told) ms w.given (going.1 c told ms begun)))
      (λ ended. inr ((steps.counts.counts.stays ended.0).0, ended.1)) w.going

  -- an item is among what is left
  gives : (o : Outcome) → Steps (Says o) → (findings.end ≡ last.Done) × Over tells of first (λ ms c. GivesNext ms c w.given (Says o) walk')
  gives o steps = by_going (goes_on (Says o) steps)
    where
      by_going : ((findings.end ≡ last.Done) × Over tells of first (λ ms c. GivesNext ms c w.given (Says o) walk'))
          ⊎ ((Says o ≡ Ends) × Over tells of first (λ ms c. GaveItems ms first.limit findings.end w.given))
          → (findings.end ≡ last.Done) × Over tells of first (λ ms c. GivesNext ms c w.given (Says o) walk')
      by_going (inl said) = said
      by_going (inr (is, gave)) = absurd (cc)

  -- so it is an item of the listing
  has_given : (o : Outcome) (item : Item) → o ≡ Gives item → Steps (Says o) → Over tells of first
      (λ ms c. HasGiven ms c (w.given ++ item ∷ []) walk')
  has_given o item is steps c told ms begun =
      (subst (λ p. GivesNext ms c w.given (Says p) walk') is ((gives o steps).1 c told ms begun)).0

  kept_with : (text : Text) (c : Content) → IsTold (tells of) c → true ≡ f c text → (ms : List Mark) → HasGiven ms c []
      first → w.texts ++ text ∷ [] ≡ wanted_paths (f c) (w.given ++ Found text ∷ [])
  kept_with text c told sure ms begun = wanted_push (f c) w.texts (text ∷ []) w.given (Found text)
      (w.kept c told ms begun) (wanted_one (f c) text sure)

  -- some of the lines that wait were written
  before_fault : (held' : Option (List ℕ)) → AppendsFront held held' waiting → Over tells of first
      (λ ms c. FindsSomeBytes end (f c) ms old held')
  before_fault held' some c told ms begun =
      let (rest, split) = w.begins c told ms begun in
      Queues-some old held held' _ waiting (with_ends end w.texts) (with_ends end (wanted_paths (f c) rest))
      (records_begin end (f c) w.texts w.given rest (items ms) (w.kept c told ms begun) split) w.queued some

  -- a path could not be written
  path_fault : (text : Text) → Steps (Says (Gives (Found text))) → (c : Content) → IsTold (tells of) c
      → true ≡ f c text → (held' : Option (List ℕ)) → AppendsFront held held' (waiting ++ ended_record end text)
      → (ms : List Mark) → HasGiven ms c [] first → FindsSomeBytes end (f c) ms old held'
  path_fault text steps c told sure held' some ms begun =
      let (rest, split) = begins_from c ms (w.given ++ Found text ∷ []) walk' (has_given _ (Found text) refl steps c told ms begun) in
      let after : List ℕ = with_ends end (wanted_paths (f c) rest) in
      Queues-more old held held' _ waiting (with_ends end w.texts) (ended_record end text) after
      (records_begin end (f c) (w.texts ++ text ∷ []) (w.given ++ Found text ∷ []) rest (items ms)
      (kept_with text c told sure ms begun) split
      ∙ ap (λ l. l ++ after) (records_push end w.texts text)) w.queued some

  -- a step could not be written
  pub Written-fault : (s : Step A) → Steps (saying s) → (held' : Option (List ℕ)) → ((c : Content) → IsTold
      (tells asked) c → AppendsFront held held' (waiting ++ step_record end (f c) s))
      → Over tells of first (λ ms c. FindsSomeBytes end (f c) ms old held')
  Written-fault s steps held' some c told ms begun = by_step s steps (some c (told_after c told))
    where
      none : AppendsFront held held' (waiting ++ []) → FindsSomeBytes end (f c) ms old held'
      none wrote = before_fault held' (subst (AppendsFront held held') (append-nil waiting) wrote) c told ms begun

      by_path : (path : PathBuf A) (yes : Bool) → yes ≡ f c (path_buf_bytes path) → Steps (Says (Gives (Found (path_buf_bytes path))))
          → AppendsFront held held' (waiting ++ (if yes then ended_record end (path_buf_bytes path) else []))
          → FindsSomeBytes end (f c) ms old held'
      by_path path true sure steps wrote = path_fault (path_buf_bytes path) steps c told sure held' wrote ms begun
      by_path path false never steps wrote = none wrote

      by_step : (t : Step A) → Steps (saying t) → AppendsFront held held' (waiting ++ step_record end (f c) t)
          → FindsSomeBytes end (f c) ms old held'
      by_step (step.Item (Ok path)) steps wrote = by_path path (f c (path_buf_bytes path)) refl steps wrote
      by_step (step.Item (Err e)) steps wrote = none wrote
      by_step step.Done steps wrote = none wrote
      by_step step.Look steps wrote = none wrote
      by_step step.List steps wrote = none wrote
      by_step step.ListNames steps wrote = none wrote

  -- the step was written, and the tree may have been asked
  module _ (tree' : X) (same : tells tree' ≡ tells asked) (held' : Option (List ℕ)) (waiting' : List ℕ) where
    still : Queues held waiting held' waiting' [] → Queues old [] held' waiting' (with_ends end w.texts)
    still queued = subst (Queues old [] held' waiting') (append-nil (with_ends end w.texts))
        (Queues-trans old held held' [] waiting waiting' (with_ends end w.texts) [] w.queued queued)

    -- a question
    Written-asked : (s : Saying) → step_units s ≡ 1 → Steps s → Queues held waiting held' waiting' [] → Written end f
        tells of first old tree' walk' findings held' waiting'
    Written-asked s question steps queued = record {
      given = w.given;
      texts = w.texts;
      same = same ∙ (told ∙ w.same);
      limit = steps.counts.counts.limit ∙ w.limit;
      queued = still queued;
      path = w.path;
      kept = w.kept;
      error = w.error;
      begins = w.begins;
      going = by_going (goes_on s steps);
    }
      where
        has : (q : Saying) (c : Content) (ms : List Mark) → step_units q ≡ 1 → GivesNext ms c w.given q walk' → HasGiven ms c w.given walk'
        has AsksLook c ms unit h = h
        has (AsksList kinds) c ms unit h = h
        has (Says o) c ms unit h = absurd (omega (arith, unit))
        has Ends c ms unit h = absurd (omega (arith, unit))

        by_going : ((findings.end ≡ last.Done) × Over tells of first (λ ms c. GivesNext ms c w.given s walk'))
            ⊎ ((s ≡ Ends) × Over tells of first (λ ms c. GaveItems ms first.limit findings.end w.given))
            → GoesOn tells of first w.given walk' findings.end
        by_going (inl (done, said)) = inl (done, λ c told ms begun. has s c ms question (said c told ms begun))
        by_going (inr (is, gave)) = let z : step_units s ≡ 0 = ap step_units is in absurd (omega (arith, z, question))

    module _ (o : Outcome) (steps : Steps (Says o)) where
      -- an item, with the paths that it adds
      Written-given : (item : Item) (texts : List Text) (findings' : Findings) → o ≡ Gives item → findings'.end ≡ findings.end
          → Queues old [] held' waiting' (with_ends end (w.texts ++ texts)) → findings'.has_path ≡ has_any (w.texts ++ texts)
          → Over tells of first (λ ms c. w.texts ++ texts ≡ wanted_paths (f c) (w.given ++ item ∷ []))
          → findings'.has_error ≡ has_unread (w.given ++ item ∷ [])
          → Written end f tells of first old tree' walk' findings' held' waiting'
      Written-given item texts findings' is same_end queued path kept error = record {
        given = w.given ++ item ∷ [];
        texts = w.texts ++ texts;
        same = same ∙ (told ∙ w.same);
        limit = steps.counts.counts.limit ∙ w.limit;
        queued = queued;
        path = path;
        kept = kept;
        error = error;
        begins = λ c told ms begun. begins_from c ms (w.given ++ item ∷ []) walk' (has_given o item is steps c told ms begun);
        going = inl (same_end ∙ (gives o steps).0, has_given o item is steps);
      }

      none_added : Queues held waiting held' waiting' [] → Queues old [] held' waiting' (with_ends end (w.texts ++ []))
      none_added queued = subst (λ ts. Queues old [] held' waiting' (with_ends end ts)) (sym (append-nil w.texts)) (still queued)

      -- a path was added
      Written-path : (text : Text) → o ≡ Gives (Found text) → ((c : Content) → IsTold (tells asked) c
          → true ≡ f c text) → Queues held waiting held' waiting' (ended_record end text)
          → Written end f tells of first old tree' walk' (record findings { has_path = true }) held' waiting'
      Written-path text is sure queued = Written-given (Found text) (text ∷ []) (record findings { has_path = true }) is refl
          (subst (Queues old [] held' waiting') (sym (records_push end w.texts text))
          (Queues-trans old held held' [] waiting waiting' (with_ends end w.texts) (ended_record end text) w.queued queued))
          (sym (has_any-push w.texts text)) (λ c told. kept_with text c told (sure c (told_after c told)))
          (w.error ∙ sym (has_unread-found w.given text))

      -- a path was passed over
      Written-passed : (text : Text) → o ≡ Gives (Found text) → ((c : Content) → IsTold (tells asked) c
          → false ≡ f c text) → Queues held waiting held' waiting' []
          → Written end f tells of first old tree' walk' findings held' waiting'
      Written-passed text is never queued = Written-given (Found text) [] findings is refl (none_added queued)
          (w.path ∙ ap has_any (sym (append-nil w.texts)))
          (λ c told ms begun. wanted_push (f c) w.texts [] w.given (Found text) (w.kept c told ms begun)
          (unwanted_one (f c) text (never c (told_after c told))))
          (w.error ∙ sym (has_unread-found w.given text))

      -- a directory could not be listed
      Written-unread : (p : Text) (k : ErrorKind) → o ≡ Gives (Unread p k) → Queues held waiting held' waiting' []
          → Written end f tells of first old tree' walk' (record findings { has_error = true }) held' waiting'
      Written-unread p k is queued = Written-given (Unread p k) [] (record findings { has_error = true }) is refl
          (none_added queued) (w.path ∙ ap has_any (sym (append-nil w.texts)))
          (λ c told ms begun. wanted_push (f c) w.texts [] w.given (Unread p k) (w.kept c told ms begun) refl)
          (sym (has_unread-push w.given p k))

      -- a refusal ended the walk
      Written-refusal : (e : End) → is_last (Says o) ≡ true → Queues held waiting held' waiting' [] → Over tells of
          first (λ ms c. GaveItems ms first.limit e w.given)
          → Written end f tells of first old tree' walk' (record findings { end = e }) held' waiting'
      Written-refusal e last queued gave = record {
        given = w.given;
        texts = w.texts;
        same = same ∙ (told ∙ w.same);
        limit = steps.counts.counts.limit ∙ w.limit;
        queued = still queued;
        path = w.path;
        kept = w.kept;
        error = w.error;
        begins = w.begins;
        going = inr (steps.counts.counts.ends ∙ last, gave);
      }

      -- an error was reported
      Written-error : (r : Outcome) → o ≡ r → IsNoPath r → Queues held waiting held' waiting' [] → Written end f tells
          of first old tree' walk' (noting findings r) held' waiting'
      Written-error (Gives (Found p)) is plain queued = absurd plain
      Written-error (Gives (Unread p k)) is plain queued = Written-unread p k is queued
      Written-error (LimitAt p) is plain queued = Written-refusal last.Limit (ap (λ r. is_last (Says r)) is) queued (λ c told ms begun.
          let (all, rest, upto) = subst (λ r. GivesNext ms c w.given (Says r) walk') is ((gives o steps).1 c told ms begun) in
          let (less, are) = upto_limit ms walk'.spent w.given p rest upto in
          let spent = all ∙ steps.counts.counts.limit ∙ w.limit in
          (subst (λ n. n < cost ms) spent less, subst (λ n. w.given ≡ items (front n ms)) spent are))
      Written-error NoMemory is plain queued = Written-refusal last.Memory (ap (λ r. is_last (Says r)) is) queued (λ c told ms begun.
          let (rest, upto) = subst (λ r. GivesNext ms c w.given (Says r) walk') is ((gives o steps).1 c told ms begun) in (
            walk'.spent,
            subst (λ n. walk'.spent ≤ n) (steps.counts.counts.limit ∙ w.limit) steps.counts.counts.within,
            upto_cut ms walk'.spent w.given rest upto,
          ))

    -- the answer of a choice to an item
    abbrev pub IsAnswered : Bool → Result (PathBuf A) (GlobError A) → Type 0
    IsAnswered sure item = (c : Content) → IsTold (tells asked) c → sure ≡ is_item_wanted (f c) item

    -- what was written of a step
    abbrev pub Writes : Step A → Findings → Type 0
    Writes s findings' = StepWrites end IsAnswered s findings findings' (Queues held waiting held' waiting') waiting'

    -- an item that is wanted was written, or waits
    Written-item : (item : Result (PathBuf A) (GlobError A)) → Steps (Says (outcome item)) → (findings' : Findings)
        → Writes (step.Item item) findings'
        → Written end f tells of first old tree' walk' findings' held' waiting'
    Written-item (Ok path) steps findings' (inl (sure, noted, queued)) =
        subst (λ x. Written end f tells of first old tree' walk' x held' waiting') (sym noted) (Written-path _ steps
        (path_buf_bytes path) refl sure queued)
    Written-item (Err e) steps findings' (inl (sure, noted, queued)) =
        subst (λ x. Written end f tells of first old tree' walk' x held' waiting') (sym noted) (Written-error _ steps
        (error_outcome e.cause e) refl (no_path e.cause e) queued)
    Written-item (Ok path) steps findings' (inr (never, is, noted, queued)) =
        subst (λ x. Written end f tells of first old tree' walk' x held' waiting') (sym noted) (Written-passed _ steps
        (path_buf_bytes path) refl never queued)
    Written-item (Err e) steps findings' (inr (never, is, noted, queued)) = absurd is

    -- a step was written, and it is not the last
    pub Written-next : (s : Step A) → (s ≡ step.Done → ⊥) → Steps (saying s) → (findings' : Findings)
        → Writes s findings' → Written end f tells of first old tree' walk' findings' held' waiting'
    Written-next s going steps findings' wrote = by_step s going steps wrote
      where
        question : (t : Saying) → step_units t ≡ 1 → Steps t → (findings' ≡ findings) × Queues held waiting held'
            waiting' [] → Written end f tells of first old tree' walk' findings' held' waiting'
        question t unit steps (noted, queued) = subst (λ x. Written end f tells of first old tree' walk' x held'
            waiting') (sym noted) (Written-asked t unit steps queued)

        by_step : (t : Step A) → (t ≡ step.Done → ⊥) → Steps (saying t) → Writes t findings' → Written end f tells of
            first old tree' walk' findings' held' waiting'
        by_step (step.Item item) going steps wrote = Written-item item steps findings' wrote
        by_step step.Done going steps wrote = absurd (going refl)
        by_step step.Look going steps wrote = question AsksLook refl steps wrote
        by_step step.List going steps wrote = question _ refl steps wrote
        by_step step.ListNames going steps wrote = question _ refl steps wrote

    -- after the last step all lines were written, and nothing is left of the walk
    pub Written-done : (s : Step A) → s ≡ step.Done → Steps (saying s) → (findings' : Findings) → Writes s findings'
        → Over tells of first (λ ms c. FindsPaths end (f c) ms first.limit old held' findings')
    Written-done s is steps findings' wrote c told ms begun =
        let (noted, queued, none) = subst (λ t. Writes t findings') is wrote in
        subst (FindsPaths end (f c) ms first.limit old held') (sym noted) (
          w.given,
          gave (goes_on (saying s) steps),
          subst (λ ts. Appends old held' (with_ends end ts)) kept
              (all queued none),
          w.path ∙ ap has_any kept,
          w.error,
        )
      where
        kept : w.texts ≡ wanted_paths (f c) w.given
        kept = w.kept c told ms begun

        all : Queues held waiting held' waiting' [] → waiting' ≡ [] → Appends old held' (with_ends end w.texts)
        all queued none = Queues-all old held' (with_ends end w.texts) (subst (λ l. Queues old [] held' l
            (with_ends end w.texts)) none (still queued))

        gave : ((findings.end ≡ last.Done) × Over tells of first (λ ms c. GivesNext ms c w.given (saying s) walk'))
            ⊎ ((saying s ≡ Ends) × Over tells of first (λ ms c. GaveItems ms first.limit findings.end w.given))
            → GaveItems ms first.limit findings.end w.given
        gave (inr over) = over.1 c told ms begun
        gave (inl (done, said)) =
            let (are, units) = upto_end ms walk'.spent w.given (subst (λ t. GivesNext ms c w.given (saying t) walk') is
            (said c told ms begun)).0 in
            let fits : cost ms ≤ first.limit = omega (arith, steps.counts.counts.within, steps.counts.counts.limit, w.limit, units) in
            subst (λ e. GaveItems ms first.limit e w.given) (sym done) (fits, are)
