-- What an entry that is met gives.
use Rattle.std.proofs.Common.{◌≡◌, ℕ, ◌<◌, ◌≤◌, Bool, true, false, cond, ◌&&◌, List, [], ◌∷◌, ◌++◌, flat_map}
use Rattle.std.proofs.Common.{length, Option, Some, None, Result, Ok, Err, refl, ap, ap₂, sym, subst, ◌∙◌, arith}
use Rattle.std.specs.Prelude.{IfErr, IfOk, OnOk, String, nat_lt, reverse, string_bytes, unwrap_or}
use Rattle.std.specs.Option.{ForSome}
use Rattle.std.proofs.lemmas.Bool.{and_parts, and_right, false_from_ne_true, le-ltb, lt-ltb, ltb-true, cond-false, cond-true}
use Rattle.std.proofs.lemmas.List.{append_assoc, length-append, length-reverse}
use Rattle.std.proofs.lemmas.Option.{same_Some}
use Rattle.glob_text.specs.Text.{Text}
use Rattle.glob_tree.specs.Content.{Content, Key, is_dir, is_dir_at, kind_at}
use Rattle.glob_tree.specs.declared.kind.Kind.{Kind}
use Rattle.glob_tree.specs.declared.tree.Entry.{Entry}
use Rattle.glob_tree.proofs.ContentLemmas.Contents.{IsContent}
use Rattle.glob_tree.proofs.ContentLemmas.Directories.{is_dir_at-kind}
use Rattle.glob_search.specs.Aims.{path_of, wants}
use Rattle.glob_search.specs.Searching.{Aim, goes_on, is_ignored, is_taken}
use Rattle.glob_search.specs.Visiting.{Gift, Found, found_at, meet}
use Rattle.glob_search.specs.Private.Engine.{AreFrames, IsBelow, IsFrame, IsKindless, IsMet}
use Rattle.glob_search.specs.Private.Engine.{IsOpening, IsReady, Keeps, Ready, Turns, file_names, found_if}
use Rattle.glob_search.specs.Private.Engine.{frame_names, lists_of, met_in}
use Rattle.glob_search.specs.States.{is_last}
use Rattle.glob_search.specs.Kept.{IsKept, is_ignored_by}
use Rattle.glob_search.specs.Private.Active.{AreActive, rules_here}
use Rattle.glob_search.specs.Private.Listings.{IsEntry}
use Rattle.glob_search.specs.Private.Nodes.{AreAlive}
use Rattle.glob_search.specs.Private.Steps.{MayEnter}
use Rattle.glob_search.specs.Private.Ways.{frame_left, met, names_in, opening_left, search_left, visited}
use Rattle.glob_search.specs.declared.active.ActiveRules.{ActiveRules}
use Rattle.glob_search.specs.declared.fault.SearchFault.{SearchFault}
use Rattle.glob_search.specs.declared.found.Found.{Found as FoundPath}
use Rattle.glob_search.specs.declared.frame.Frame.{Frame}
use Rattle.glob_search.specs.declared.meter.Meter.{Meter}
use Rattle.glob_search.specs.declared.searcher.Searcher.{Searcher}
use Rattle.glob_search.specs.declared.way.Way.{Way}
use Rattle.glob_search.proofs.EngineLemmas.Paths.{names_in-path_of, names-proper}
use Rattle.glob_search.proofs.EngineLemmas.Stepping.{left-charged, left-free, last-gives, ready-charged}

-- as many names as directories
pub level : {A : Type 0} (c : Content) (a : Aim) (s : Searcher A) (files : ℕ) (fs : List (Frame A)) (names : Key)
    → AreFrames c a s.beginnings files fs → IsBelow names fs → length names ≡ length fs
level c a s files [] names all below = ap length below
level c a s files (f ∷ fs) names all (n, is) =
    let up = level c a s files fs (frame_names f) all.2 all.0.below in
    omega (arith, ap length is, length-append (frame_names f) (n ∷ []), up)

-- the directory of an entry that is met
pub record Met {A : Type 0} (c : Content) (a : Aim) (s : Searcher A) (e : Entry A) : Type 0 where
  pub f : Frame A
  pub fs : List (Frame A)
  pub is : reverse s.way.frames.items ≡ f ∷ fs
  pub frame : IsFrame c a s.beginnings f fs
  pub entry : IsEntry c (frame_names f) f.source e
  pub deep : length (frame_names f ++ e.name ∷ []) ≡ length s.way.frames.items
  pub met-is : met_in c a (reverse s.way.frames.items) e.name ≡ met c a (frame_names f) e.name

pub met-of : {A : Type 0} (c : Content) (a : Aim) (s : Searcher A) (e : Entry A) → IsReady c a s → IsMet c
    (reverse s.way.frames.items) e → Met c a s e
met-of {A} c a s e ready h = by_list (reverse s.way.frames.items) refl h
  where
    by_list : (gs : List (Frame A)) → reverse s.way.frames.items ≡ gs → IsMet c gs e → Met c a s e
    by_list [] is h = absurd h
    by_list (f ∷ fs) is h =
        let all = subst (AreFrames c a s.beginnings (length (file_names s))) is ready.frames in
        let up = level c a s (length (file_names s)) fs (frame_names f) all.2 all.0.below in
        record {
          f = f;
          fs = fs;
          is = is;
          frame = all.0;
          entry = h;
          deep = omega (arith, length-append (frame_names f) (e.name ∷ []), up, ap length is, length-reverse s.way.frames.items);
          met-is = ap (λ gs. met_in c a gs e.name) is;
        }

abbrev two-nothings : Bool → List Gift
two-nothings b = cond b [] []

no-gifts : (b : Bool) → two-nothings b ≡ []
no-gifts true = refl
no-gifts false = refl

-- what may not be entered is known to be no directory
pub not-known : (known : Option Bool) (d : Bool) → unwrap_or known true ≡ false → ForSome known (λ x. x ≡ d) → d ≡ false
not-known None d is same = absurd (cc)
not-known (Some x) d is same = sym (same x refl) ∙ is

-- whether something goes on from it
pub on-then : (n m depth : ℕ) (goes other : Bool) → m ≡ n → n < depth → goes ≡ other → goes ≡ (nat_lt m depth && other)
on-then n m depth goes other same lt is = is ∙ sym (ap (λ b. b && other) (lt-ltb m depth (subst (λ k. k < depth) (sym same) lt)))

pub on-else : (n m depth own : ℕ) (goes other : Bool) → m ≡ n → depth ≡ own → own ≤ n → goes ≡ nat_lt n own → goes ≡
    (nat_lt m depth && other)
on-else n m depth own goes other same depth-is le is = is ∙ le-ltb n own le ∙ sym (ap (λ b. b && other)
    (false_from_ne_true (nat_lt m depth) (λ t. absurd (omega (arith, ltb-true m depth t, same, depth-is, le)))))

module _ (c : Content) (a : Aim) (names : Key) (n : Text) (kind : Kind) (held : kind_at c
    (c.current ++ (names ++ n ∷ [])) ≡ Some kind) where
  abbrev key : Key
  key = names ++ n ∷ []

  abbrev on : Bool
  on = nat_lt (length key) a.depth && goes_on a key

  -- what it gives, if nothing ignores it
  abbrev kept : List Gift
  kept = cond (a.is_wanted kind && is_taken a key) (Found key ∷ []) [] ++ cond (on && is_dir kind) (visited c a key) []

  swap : (d b g : Bool) → (d && b && g) ≡ (b && g && d)
  swap true true true = refl
  swap true true false = refl
  swap true false g = refl
  swap false true true = refl
  swap false true false = refl
  swap false false g = refl

  pub met-is : met c a names n ≡ cond (is_ignored a key (is_dir kind)) [] kept
  unfolding met
  met-is =
      let d : is_dir_at c (c.current ++ key) ≡ is_dir kind = is_dir_at-kind c (c.current ++ key) kind held in
      ap (meet c a (visited c a) key) d
      ∙ ap (λ o. cond (is_ignored a key (is_dir kind)) [] (found_at c a key o ++ cond (is_dir kind && nat_lt
      (length key) a.depth && goes_on a key) (visited c a key) [])) held
      ∙ ap (λ b. cond (is_ignored a key (is_dir kind)) [] (cond (a.is_wanted kind && is_taken a key) (Found key ∷ [])
      [] ++ cond b (visited c a key) []))
      (swap (is_dir kind) (nat_lt (length key) a.depth) (goes_on a key))

  -- nothing alive takes the name
  pub met-nothing : is_taken a key ≡ false → on ≡ false → met c a names n ≡ []
  met-nothing taken off =
      met-is
      ∙ ap₂ (λ x y. cond (is_ignored a key (is_dir kind)) [] (cond x (Found key ∷ []) [] ++ cond y (visited c a key) []))
      (and_right (a.is_wanted kind) (is_taken a key) taken) (ap (λ b. b && is_dir kind) off)
      ∙ no-gifts (is_ignored a key (is_dir kind))

  -- only what goes on below a directory takes it, and it is none
  pub met-file : is_taken a key ≡ false → is_dir kind ≡ false → met c a names n ≡ []
  met-file taken file =
      met-is
      ∙ ap₂ (λ x y. cond (is_ignored a key (is_dir kind)) [] (cond x (Found key ∷ []) [] ++ cond y (visited c a key) []))
      (and_right (a.is_wanted kind) (is_taken a key) taken) (and_right on (is_dir kind) file)
      ∙ no-gifts (is_ignored a key (is_dir kind))

  pub met-ignored : is_ignored a key (is_dir kind) ≡ true → met c a names n ≡ []
  met-ignored h = met-is ∙ cond-true (is_ignored a key (is_dir kind)) [] kept h

  pub met-kept : is_ignored a key (is_dir kind) ≡ false → met c a names n ≡ kept
  met-kept h = met-is ∙ cond-false (is_ignored a key (is_dir kind)) [] kept h

module _ {A : Type 0} (c : Content) (w : IsContent c) (a : Aim) (known : Text → Option Text) (s : Searcher A)
    (ready : IsReady c a s) (free : s.way.entering ≡ None)
    (f : Frame A) (fs : List (Frame A)) (is : reverse s.way.frames.items ≡ f ∷ fs) (n : Text) (kind : Kind)
    (held : kind_at c (c.current ++ (frame_names f ++ n ∷ [])) ≡ Some kind) where
  abbrev names : Key
  names = frame_names f

  abbrev key' : Key
  key' = names ++ n ∷ []

  abbrev on' : Bool
  on' = nat_lt (length key') a.depth && goes_on a key'

  pub are_active : AreActive a names s.active
  are_active = record { first = ready.for.first; files = ready.active ∙ ap (lists_of a) is; last = ready.for.last }

  abbrev before : List Gift
  before = met c a names n ++ search_left c a s

  -- what is left if it is not entered, and if it is
  after-take : (t : Searcher A) (b : Bool) (path : Text) (alive : List ℕ) → b ≡ (on' && is_dir kind) → path ≡ path_of
      key' → AreAlive s.beginnings key' alive
      → t ≡ record s { meter = t.meter; way = t.way } → MayEnter b path alive s.way t.way
      → IsReady c a t × (cond (on' && is_dir kind) (visited c a key') [] ++ search_left c a s ≡ search_left c a t)
  after-take t true path alive b-is named living same (enters, frames) =
      let o = enters.opening in
      let proper = names-proper c w c.current key' kind held in
      let text : string_bytes o.path ≡ path_of key' = enters.named ∙ named in
      let in-path : names_in (string_bytes o.path) ≡ key' = ap names_in text ∙ names_in-path_of key' proper in
      let dir : is_dir kind ≡ true = (and_parts on' (is_dir kind) (sym b-is)).1 in
      let there : is_dir_at c (c.current ++ key') ≡ true = is_dir_at-kind c (c.current ++ key') kind held ∙ dir in
      let moved = record s { meter = t.meter; way = t.way } in
      let fs-same : reverse t.way.frames.items ≡ reverse s.way.frames.items = ap (λ v. reverse v.items) frames in
      let opening : IsOpening c s.beginnings (reverse t.way.frames.items) o = record {
        directory = record {
          path = text ∙ ap path_of (sym in-path);
          there = ap (λ k. is_dir_at c (c.current ++ k)) in-path ∙ there;
          alive = subst (λ k. AreAlive s.beginnings k o.alive.items) (sym in-path) (subst (AreAlive s.beginnings key')
              (sym enters.living) living);
        };
        below = subst (IsBelow (names_in (string_bytes o.path))) (sym (fs-same ∙ is)) (n, in-path);
      } in (
        subst (IsReady c a) (sym same) (record {
          for = record {
            beginnings = ready.for.beginnings;
            depth = ready.for.depth;
            wanted = ready.for.wanted;
            first = ready.for.first;
            last = ready.for.last;
          };
          frames = subst (AreFrames c a s.beginnings (length (file_names s))) (sym fs-same) ready.frames;
          opening = subst (λ e. ForSome e (IsOpening c s.beginnings (reverse t.way.frames.items))) (sym enters.next)
              (λ d h. subst (IsOpening c s.beginnings (reverse t.way.frames.items)) (same_Some o d h) opening);
          active = ready.active ∙ sym (ap (lists_of a) fs-same);
        }),
        ap₂ (λ gs hs. gs ++ hs) (ap (λ b. cond b (visited c a key') []) (sym b-is)) (left-free c a s free)
            ∙ ap (λ k. visited c a k ++ flat_map (frame_left c a) (reverse s.way.frames.items)) (sym in-path)
            ∙ sym (ap₂ (λ e gs. opening_left c a e ++ flat_map (frame_left c a) gs) enters.next fs-same)
            ∙ ap (search_left c a) (sym same),
      )
  after-take t false path alive b-is named living same still =
      let moved = record s { meter = t.meter } in
      let g : Way A → Searcher A = λ v. record s { meter = t.meter; way = v } in
      let whole : t ≡ moved = same ∙ ap g still in (
        ready-charged c a s t whole ready,
        ap (λ b. cond b (visited c a key') [] ++ search_left c a s) (sym b-is) ∙ left-charged c a s t whole,
      )

  -- it is taken
  pub takes : (t : Searcher A) (r : Result (Option (FoundPath A)) (SearchFault A)) (path : String A) (alive : List ℕ)
      (d : Option Bool) (on found : Bool) (at : Text)
      → string_bytes path ≡ path_of key' → AreAlive s.beginnings key' alive → found ≡ is_taken a key' → on ≡ on'
      → is_ignored a key' (is_dir kind) ≡ false → ForSome d (λ e. e ≡ is_dir kind) → (d ≡ None → (on ≡ false) × IsKindless s at)
      → t ≡ record s { meter = t.meter; way = t.way }
      → OnOk r (MayEnter (on && unwrap_or d false) (string_bytes path) alive s.way t.way)
      → IfOk r (λ o. o ≡ found_if (found && wants s.wanted (unwrap_or d false)) path d)
      → IfErr r (λ x. is_last x ≡ true)
      → Turns c a known before r t
  takes t (Err x) path alive d on found at named living taken goes kept' learned matters same enters finds other =
      last-gives c a known before x t other
  takes t (Ok o) path alive d on found at named living taken goes kept' learned matters same enters finds other =
      by_found o (found && wants s.wanted (unwrap_or d false)) test finds
    where
      enters-is : (on && unwrap_or d false) ≡ (on' && is_dir kind)
      enters-is = by_kind d learned matters
        where
          by_kind : (d : Option Bool) → ForSome d (λ e. e ≡ is_dir kind) → (d ≡ None → (on ≡ false) × IsKindless s at) →
              (on && unwrap_or d false) ≡ (on' && is_dir kind)
          by_kind None l m = ap (λ b. b && false) (m refl).0 ∙ sym (ap (λ b. b && is_dir kind) (sym goes ∙ (m refl).0))
          by_kind (Some e) l m = ap₂ (λ x y. x && y) goes (l e refl)

      test : (found && wants s.wanted (unwrap_or d false)) ≡ (a.is_wanted kind && is_taken a key')
      test = by_kind d learned matters
        where
          swapped : (x y : Bool) → (x && y) ≡ (y && x)
          swapped true true = refl
          swapped true false = refl
          swapped false true = refl
          swapped false false = refl

          by_kind : (d : Option Bool) → ForSome d (λ e. e ≡ is_dir kind) → (d ≡ None → (on ≡ false) × IsKindless s at)
              → (found && wants s.wanted (unwrap_or d false)) ≡ (a.is_wanted kind && is_taken a key')
          by_kind None l m =
              let all = (m refl).1.all in
              swapped found (wants s.wanted false) ∙ ap₂ (λ x y. x && y) (ap (λ v. wants v false) all ∙ sym
              (ready.for.wanted kind ∙ ap (λ v. wants v (is_dir kind)) all)) taken
          by_kind (Some e) l m =
              swapped found (wants s.wanted e) ∙ ap₂ (λ x y. x && y) (ap (wants s.wanted) (l e refl) ∙ sym (ready.for.wanted kind)) taken

      taken' : IsReady c a t × (cond (on' && is_dir kind) (visited c a key') [] ++ search_left c a s ≡ search_left c a t)
      taken' = after-take t (on && unwrap_or d false) (string_bytes path) alive enters-is named living same enters

      whole : before ≡ cond (a.is_wanted kind && is_taken a key') (Found key' ∷ []) [] ++ search_left c a t
      whole =
          ap (λ gs. gs ++ search_left c a s) (met-kept c a names n kind held kept')
          ∙ append_assoc (cond (a.is_wanted kind && is_taken a key') (Found key' ∷ []) []) (cond (on' && is_dir kind)
          (visited c a key') []) (search_left c a s)
          ∙ ap (λ gs. cond (a.is_wanted kind && is_taken a key') (Found key' ∷ []) [] ++ gs) taken'.1

      by_found : (o : Option (FoundPath A)) (b : Bool) → b ≡ (a.is_wanted kind && is_taken a key') → o ≡ found_if b
          path d → Turns c a known before (Ok o) t
      by_found o true b-is o-is = subst (λ p. Turns c a known before (Ok p) t) (sym o-is) (record {
        names = key';
        path = named;
        kind = λ e h. learned e h ∙ sym (is_dir_at-kind c (c.current ++ key') kind held);
        ready = taken'.0;
        rest = whole ∙ ap (λ b. cond b (Found key' ∷ []) [] ++ search_left c a t) (sym b-is);
      })
      by_found o false b-is o-is = subst (λ p. Turns c a known before (Ok p) t) (sym o-is) (record {
        sound = Ready taken'.0;
        rest = whole ∙ ap (λ b. cond b (Found key' ∷ []) [] ++ search_left c a t) (sym b-is);
      })

  -- it gives nothing
  pub passes : (t : Searcher A) → t ≡ record s { meter = t.meter } → met c a names n ≡ [] → Keeps c a known before t
  passes t same none = record {
    sound = Ready (ready-charged c a s t same ready);
    rest = ap (λ gs. gs ++ search_left c a s) none ∙ left-charged c a s t same;
  }

  -- it is ignored, whatever its kind is taken to be
  pub ignored-same : (goes : Bool) (d : Option Bool) (at : Text) → at ≡ path_of key' → ForSome d (λ e. e ≡ is_dir kind)
      → (d ≡ None → (goes ≡ false) × IsKindless s at) → is_ignored a key' (unwrap_or d false) ≡ is_ignored a key' (is_dir kind)
  ignored-same goes None at is-at learned matters = by_kind (is_dir kind)
    where
      by_kind : (b : Bool) → is_ignored a key' false ≡ is_ignored a key' b
      by_kind true = sym ((matters refl).1.same a names n are_active (names-proper c w c.current key' kind held) is-at)
      by_kind false = refl
  ignored-same goes (Some e) at is-at learned matters = ap (is_ignored a key') (learned e refl)

-- what is charged, and what is on the way
pub both-same : {A : Type 0} (s u t : Searcher A) → u ≡ record s { meter = u.meter } → t ≡ record u { way = t.way }
    → t ≡ record s { meter = t.meter; way = t.way }
both-same {A} s u t same-u same-t =
    let f : Searcher A → Searcher A = λ x. record x { way = t.way } in
    let first : t ≡ record s { meter = u.meter; way = t.way } = same-t ∙ ap f same-u in
    let g : Meter → Searcher A = λ m. record s { meter = m; way = t.way } in
    first ∙ ap g (sym (ap (λ x. x.meter) first))

-- what is found is kept
pub found-kept : {A E : Type 0} (h : ActiveRules A) (r : Result (Option (FoundPath A)) E) (test : Bool) (path : String A)
    (d : Option Bool) → IfOk r (λ o. o ≡ found_if test path d)
    → is_ignored_by (rules_here h) (string_bytes path) (unwrap_or d false) ≡ false
    → (d ≡ None → is_ignored_by (rules_here h) (string_bytes path) true ≡ is_ignored_by (rules_here h) (string_bytes path) false)
    → IfOk r (λ o. ForSome o (IsKept (rules_here h)))
found-kept h (Err x) test path d finds out same = tt
found-kept {A} h (Ok o) test path d finds out same = by_test test finds
  where
    kept : IsKept (rules_here h) (record { path = path; is_dir = d })
    kept e known = by_kind d known out same
      where
        says : Bool → Bool
        says k = is_ignored_by (rules_here h) (string_bytes path) k

        by_kind : (o : Option Bool) → ForSome o (λ k. k ≡ e) → says (unwrap_or o false) ≡ false
            → (o ≡ None → says true ≡ says false) → says e ≡ false
        by_kind (Some k) is not same = ap says (sym (is k refl)) ∙ not
        by_kind None is not same = by_bool e
          where
            by_bool : (b : Bool) → says b ≡ false
            by_bool true = same refl ∙ not
            by_bool false = not

    by_test : (t : Bool) → o ≡ found_if t path d → ForSome o (IsKept (rules_here h))
    by_test false is = λ found some. absurd (nothing found (sym is ∙ some))
      where
        nothing : (found : FoundPath A) → None ≡ Some found → ⊥
        nothing found e = cc
    by_test true is = λ found some. subst (IsKept (rules_here h)) (same_Some _ found (sym is ∙ some)) kept
