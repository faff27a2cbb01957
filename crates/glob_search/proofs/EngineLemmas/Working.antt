-- What is left after the next work was taken from the way.
use Rattle.std.proofs.Common.{◌≡◌, ◌≢◌, ℕ, zero, suc, ◌+◌, ◌-◌, ◌<◌, ◌≤◌, ⊎_elim, true, List, [], ◌∷◌, ◌++◌}
use Rattle.std.proofs.Common.{flat_map, get_or, length, map, take, Option, Some, None, refl, ap, ap₂, sym, subst, ◌∙◌}
use Rattle.std.proofs.Common.{arith}
use Rattle.std.specs.Prelude.{IsSome, is_some, filter_map, option_map, reverse, string_bytes, Vec}
use Rattle.std.specs.List.{All, cons_option}
use Rattle.std.specs.Option.{ForSome}
use Rattle.std.proofs.lemmas.Bool.{both_ways, cases_lt}
use Rattle.std.proofs.lemmas.List.{append-nil, append_assoc, take_all, take_at, take_more}
use Rattle.std.proofs.lemmas.List.Elements.{filter_map-append}
use Rattle.glob_text.specs.Text.{Text}
use Rattle.glob_rules.specs.Lists.{Ignores, rules_of}
use Rattle.glob_tree.specs.Answers.{entries_of, names_of}
use Rattle.glob_tree.specs.Content.{Content, Key, is_content, is_dir_at, kind_at}
use Rattle.glob_tree.specs.declared.tree.Entry.{Entry}
use Rattle.glob_search.specs.Aims.{AreTextsOf, path_of, rules_from}
use Rattle.glob_search.specs.Searching.{Aim}
use Rattle.glob_search.specs.Visiting.{Gift}
use Rattle.glob_search.specs.Private.Engine.{AreFrames, HasWork, IsFor, IsFrame, IsLeft, IsOpening, IsReading}
use Rattle.glob_search.specs.Private.Engine.{IsMet, IsReady, IsSound, Keeps, Reading, Ready, file_names, frame_names}
use Rattle.glob_search.specs.Private.Engine.{lists_of, lists_up_to, met_in, work_left}
use Rattle.glob_search.specs.Private.Active.{above_of, after, active_lists, lists_above, lists_at, lists_in}
use Rattle.glob_search.specs.Private.Listings.{IsEntry, names_down}
use Rattle.glob_search.specs.Private.Steps.{IsAbsent, MeetsNext, LeavesNext, MayEnter, NextWork, Passes, ReadsNext}
use Rattle.glob_search.specs.Private.Ways.{IsDone, entries_left, frame_left, met, opening_left, search_left, way_left}
use Rattle.glob_search.specs.declared.frame.Frame.{Frame}
use Rattle.glob_search.specs.declared.active.FileRules.{FileRules}
use Rattle.glob_search.specs.declared.frame.Opening.{Opening}
use Rattle.glob_search.specs.declared.frame.Source.TheVariants.{LookedUp}
use Rattle.glob_search.specs.declared.searcher.Searcher.{Searcher}
use Rattle.glob_search.specs.declared.way.Way.{Way}
use Rattle.glob_search.specs.declared.way.Work.{Work}
use Rattle.glob_search.specs.declared.way.Work.TheVariants.{Enter, Read, Meet, Leave}
use Rattle.glob_search.proofs.EngineLemmas.Lasts.{All-before, All-last, reverse-from, reverse-last}
use Rattle.glob_search.proofs.EngineLemmas.Passing.{no-items}
use Rattle.glob_search.proofs.EngineLemmas.Stepping.{lists-below}

-- an element inside a list does not depend on the default for elements outside
pub get_or_within : (xs : List Text) (k : ℕ) (d e : Text) → k < length xs → get_or xs k d ≡ get_or xs k e
get_or_within [] k d e h = absurd (omega (arith, h))
get_or_within (x ∷ xs) zero d e h = refl
get_or_within (x ∷ xs) (suc k) d e h = get_or_within xs k d e (omega (arith, h))

-- the rules of one more file
pub rules-next : (known : Text → Option Text) (files : List Text) (names : Key) (n : ℕ) → n < length files
    → rules_from known (take (n + 1) files) names
    ≡ rules_from known (take n files) names ++ cons_option (option_map rules_of (known (path_of (names ++ get_or files n [] ∷ [])))) []
rules-next known files names n within =
    let rule : Text → Option Ignores = λ file. option_map rules_of (known (path_of (names ++ file ∷ []))) in
    ap (filter_map rule) (take_more files n [] within)
    ∙ filter_map-append rule (take n files) (get_or files n [] ∷ [])

module _ {A : Type 0} (c : Content) (a : Aim) (known : Text → Option Text) (files : List Text)
    (fit : AreTextsOf c a files known) (content : is_content c ≡ true)
    (f : Frame A) (names : Key) (there : is_dir_at c (c.current ++ names) ≡ true)
    (whole : f.source ≢ LookedUp → names_of (entries_of f.entries.items) ≡ names_down c names) where
  -- a missing file has no rules
  no-text : (n : ℕ) → n < length files → IsAbsent f (get_or files n []) → known (path_of (names ++ get_or files n [] ∷ [])) ≡ None
  no-text n within missing = by_text (known (path_of (names ++ get_or files n [] ∷ []))) refl
    where
      none : kind_at c (c.current ++ (names ++ get_or files n [] ∷ [])) ≡ None
      none = missing.absent c names content (whole missing.known)

      by_text : (o : Option Text) → known (path_of (names ++ get_or files n [] ∷ [])) ≡ o → o ≡ None
      by_text None is = refl
      by_text (Some text) is =
          absurd (both_ways (is_some (kind_at c (c.current ++ (names ++ get_or files n [] ∷ [])))) (ap is_some none)
          (fit.held names (get_or files n []) there (n, within, get_or_within files n (get_or files n []) [] within)
          (subst IsSome (sym is) refl)))

  -- so skipping files changes nothing
  pub rules-passed : (low n : ℕ) → ((k : ℕ) → low ≤ k → k < n → IsAbsent f (get_or files k [])) → (m : ℕ) → low + m ≤ n → n ≤ length files
      → rules_from known (take (low + m) files) names ≡ rules_from known (take low files) names
  rules-passed low n missing zero upto within = ap (λ k. rules_from known (take k files) names) (let e : low + 0 ≡ low = omega arith in e)
  rules-passed low n missing (suc m) upto within =
      let k = low + m in
      let one : low + suc m ≡ k + 1 = omega arith in
      ap (λ j. rules_from known (take j files) names) one
      ∙ rules-next known files names k (omega (arith, upto, within))
      ∙ ap (λ o. rules_from known (take k files) names ++ cons_option (option_map rules_of o) [])
      (no-text k (omega (arith, upto, within)) (missing k (omega arith) (omega (arith, upto))))
      ∙ append-nil (rules_from known (take k files) names)
      ∙ rules-passed low n missing m (omega (arith, upto)) within

  -- the files from one number to another are not there
  pub lists-passed : (low n : ℕ) → ((k : ℕ) → low ≤ k → k < n → IsAbsent f (get_or files k [])) → low ≤ n → n ≤ length files
      → lists_up_to known a files names low ≡ lists_up_to known a files names n
  lists-passed low n missing le within =
      let more : low + (n - low) ≡ n = omega (arith, le) in
      ap (λ rs. lists_above a names ++ after (above_of names) rs)
      (sym (rules-passed low n missing (n - low) (omega (arith, more)) within) ∙ ap (λ k. rules_from known (take k files) names) more)

  -- all files were read
  pub lists-all : lists_up_to known a files names (length files) ≡ lists_at a names
  lists-all = ap (λ rs. lists_above a names ++ after (above_of names) rs) (ap (λ fs. rules_from known fs names)
      (take_all (length files) files (omega arith)) ∙ sym (fit.rules names))

  -- past the end
  pub lists-past : (n : ℕ) → length files ≤ n → lists_up_to known a files names n ≡ lists_at a names
  lists-past n past = ap (λ rs. lists_above a names ++ after (above_of names) rs) (ap (λ fs. rules_from known fs names)
      (take_all n files past) ∙ sym (fit.rules names))

-- a frame with other entries left and more files read
pub frame-goes : {A : Type 0} (c : Content) (a : Aim) (s : Searcher A) (last passed left : Frame A)
    (above : List (Frame A)) → passed ≡ record last { files = passed.files }
    → left ≡ record passed { entries = left.entries } → IsFrame c a s.beginnings last above → All
    (IsEntry c (frame_names last) last.source) left.entries.items
    → IsFrame c a s.beginnings left above
frame-goes {A} c a s last passed left above same other frame all =
    let g : Frame A → Frame A = λ h. record h { entries = left.entries } in
    let whole : left ≡ record last { files = passed.files; entries = left.entries } = other ∙ ap g same in
    let made : IsFrame c a s.beginnings (record last { files = passed.files; entries = left.entries }) above =
    record { directory = frame.directory; below = frame.below; entries = all; active = frame.active } in
    subst (λ h. IsFrame c a s.beginnings h above) (sym whole) made

-- the last directory, all of whose files were read
pub record IsTop {A : Type 0} (c : Content) (a : Aim) (s : Searcher A) (last : Frame A) (above : List (Frame A)) : Type 0 where
  pub for : IsFor a s
  pub frame : IsFrame c a s.beginnings last above
  pub others : AreFrames c a s.beginnings (length (file_names s)) above
  pub active : active_lists s.active.files.items ≡ lists_at a (frame_names last)

module _ {A : Type 0} (c : Content) (a : Aim) (known : Text → Option Text) (s : Searcher A) (fit : AreTextsOf c a
    (file_names s) known) (content : is_content c ≡ true) where
  abbrev files : List Text
  files = file_names s

  pub reading-active : (n : ℕ) (r : IsReading c a known s n) (upto : ℕ) → ((k : ℕ) → n ≤ k → k < upto → IsAbsent r.last
      (get_or files k [])) → n ≤ upto → upto ≤ length files
      → active_lists s.active.files.items ≡ lists_up_to known a files (frame_names r.last) upto
  reading-active n r upto missing le within =
      r.active ∙ lists-passed c a known files fit content r.last (frame_names r.last) r.frame.directory.there r.whole n
      upto missing le within

  pub top-of : IsSound c a known s → (last passed : Frame A) (above : List (Frame A)) → reverse s.way.frames.items ≡
      last ∷ above → Passes files last passed (length files)
      → IsTop c a s last above
  top-of (Ready r) last passed above is passes =
      let all = subst (AreFrames c a s.beginnings (length files)) is r.frames in
      record { for = r.for; frame = all.0; others = all.2; active = r.active ∙ ap (lists_of a) is }
  top-of (Reading n r at) last passed above is passes =
      let same : r.last ∷ r.above ≡ last ∷ above = sym r.frames ∙ is in
      let first : r.last ≡ last = cc in
      let rest : r.above ≡ above = cc in
      record {
        for = r.for;
        frame = subst (λ f. IsFrame c a s.beginnings f above) first (subst (IsFrame c a s.beginnings r.last) rest r.frame);
        others = subst (AreFrames c a s.beginnings (length files)) rest r.others;
        active = subst (λ f. active_lists s.active.files.items ≡ lists_at a (frame_names f)) first (⊎_elim
            (λ few. reading-active n r (length files)
            (λ k low high. subst (λ f. IsAbsent f (get_or files k [])) (sym first) (passes.absent k (subst (λ m. m ≤ k)
            (sym at ∙ ap (λ f. f.files) first) low) high))
            (omega (arith, few)) (omega arith)
            ∙ lists-all c a known files fit content r.last (frame_names r.last) r.frame.directory.there r.whole)
            (λ past. r.active ∙ lists-past c a known files fit content r.last (frame_names r.last) r.frame.directory.there r.whole n past)
            (cases_lt n (length files)));
      }

  module _ (w : Way A) where
    abbrev t : Searcher A
    t = record s { way = w }

    frames-left : (f : Frame A) (front : List (Frame A)) (v : Way A) → v.entering ≡ None → v.frames.items ≡ front ++ f ∷ []
        → way_left c a v ≡ frame_left c a f ++ flat_map (frame_left c a) (reverse front)
    frames-left f front v free is = ap₂ (λ e fs. opening_left c a e ++ flat_map (frame_left c a) fs) free
        (reverse-from v.frames.items front f is)

    pub enters-next : IsSound c a known s → (o : Opening A) → s.way.entering ≡ Some o → w.entering ≡ None
        → w.frames.items ≡ s.way.frames.items
        → HasWork c a known t (Enter o) × (search_left c a s ≡ work_left c a t (Enter o) ++ search_left c a t)
    enters-next (Reading n r at) o entering free same = absurd (none-some' (sym r.free ∙ entering))
      where
        none-some' : None ≡ Some o → ⊥
        none-some' h = cc
    enters-next (Ready r) o entering free same =
        let fs : reverse w.frames.items ≡ reverse s.way.frames.items = ap reverse same in (
          (
            record {
              for = record {
                beginnings = r.for.beginnings;
                depth = r.for.depth;
                wanted = r.for.wanted;
                first = r.for.first;
                last = r.for.last;
              };
              frames = subst (AreFrames c a s.beginnings (length files)) (sym fs) r.frames;
              opening = subst (λ e. ForSome e (IsOpening c s.beginnings (reverse w.frames.items))) (sym free) (λ d h. absurd (cc));
              active = r.active ∙ sym (ap (lists_of a) fs);
            },
            free,
            subst (λ gs. IsOpening c s.beginnings gs o) (sym fs) (r.opening o entering),
          ),
          ap (λ e. opening_left c a e ++ flat_map (frame_left c a) (reverse s.way.frames.items)) entering
              ∙ ap (λ gs. opening_left c a (Some o) ++ gs) (sym (ap₂ (λ e gs. opening_left c a e ++ flat_map (frame_left c a) gs) free fs)),
        )

    pub reads-next : IsSound c a known s → (n : ℕ) → ReadsNext files s.way n w → HasWork c a known t (Read n) ×
        (search_left c a s ≡ work_left c a t (Read n) ++ search_left c a t)
    reads-next (Ready r) n x =
        let all = subst (AreFrames c a s.beginnings (length files)) (reverse-from s.way.frames.items x.goes.front
        x.last x.goes.before) r.frames in
        absurd (omega (arith, all.1, x.next.1, x.next.2))
    reads-next (Reading m r at) n x =
        let (passes, low, within, now) = x.next in
        let is : r.last ∷ r.above ≡ x.last ∷ reverse x.goes.front = sym r.frames ∙ reverse-from s.way.frames.items
        x.goes.front x.last x.goes.before in
        let first : r.last ≡ x.last = cc in
        let rest : r.above ≡ reverse x.goes.front = cc in
        let f : Frame A → Frame A = λ h. record h { files = x.passed.files } in
        let passed : x.passed ≡ record r.last { files = x.passed.files } = passes.same ∙ ap f (sym first) in
        let m-is : m ≡ x.last.files = sym at ∙ ap (λ h. h.files) first in
        let named : frame_names r.last ≡ frame_names x.passed = sym (ap frame_names passed) in
        let frame = frame-goes c a s r.last x.passed x.passed (reverse x.goes.front) passed refl
        (subst (IsFrame c a s.beginnings r.last) rest r.frame)
        (subst (All (IsEntry c (frame_names r.last) r.last.source)) (sym (ap (λ h. h.entries.items) passed)) r.frame.entries) in
        let reading : IsReading c a known t n = record {
          for = record {
            beginnings = r.for.beginnings;
            depth = r.for.depth;
            wanted = r.for.wanted;
            first = r.for.first;
            last = r.for.last;
          };
          free = x.goes.still;
          last = x.passed;
          above = reverse x.goes.front;
          frames = reverse-from w.frames.items x.goes.front x.passed x.goes.after;
          frame = frame;
          others = subst (AreFrames c a s.beginnings (length files)) rest r.others;
          active = reading-active m r n (λ k from below. subst (λ h. IsAbsent h (get_or files k [])) (sym first)
              (passes.absent k (subst (λ j. j ≤ k) m-is from) below))
              (subst (λ j. j ≤ n) (sym m-is) low) (omega (arith, within))
              ∙ ap (λ ns. lists_up_to known a files ns n) named;
          whole = subst (λ h. h.source ≢ LookedUp → names_of (entries_of h.entries.items) ≡ names_down c
              (frame_names h)) (sym passed) r.whole;
        } in (
          (reading, now, within),
          frames-left x.last x.goes.front s.way x.goes.free x.goes.before
              ∙ ap (λ gs. gs ++ flat_map (frame_left c a) (reverse x.goes.front)) (sym (ap (frame_left c a) passes.same))
              ∙ sym (frames-left x.passed x.goes.front w x.goes.still x.goes.after),
        )

    pub meets-next : IsSound c a known s → (e : Entry A) → MeetsNext files s.way e w → HasWork c a known t (Meet e) ×
        (search_left c a s ≡ work_left c a t (Meet e) ++ search_left c a t)
    meets-next sound e x =
        let (passes, past) = x.next in
        let top = top-of sound x.last x.passed (reverse x.goes.front) (reverse-from s.way.frames.items x.goes.front
        x.last x.goes.before) passes in
        let g : Frame A → Frame A = λ h. record h { entries = x.left.entries } in
        let whole : x.left ≡ record x.last { files = x.passed.files; entries = x.left.entries } = x.same ∙ ap g passes.same in
        let split : x.last.entries.items ≡ x.left.entries.items ++ e ∷ [] = sym (ap (λ h. h.entries.items) passes.same) ∙ x.entry in
        let all : All (IsEntry c (frame_names x.last) x.last.source) (x.left.entries.items ++ e ∷ []) = subst
        (All (IsEntry c (frame_names x.last) x.last.source)) split top.frame.entries in
        let frame = frame-goes c a s x.last x.passed x.left (reverse x.goes.front) passes.same x.same top.frame
        (All-before (IsEntry c (frame_names x.last) x.last.source) x.left.entries.items e all) in
        let fs : reverse w.frames.items ≡ x.left ∷ reverse x.goes.front = reverse-from w.frames.items x.goes.front x.left x.goes.after in
        let named : frame_names x.left ≡ frame_names x.last = ap frame_names whole in
        let entry : IsEntry c (frame_names x.left) x.left.source e =
        subst (λ h. IsEntry c (frame_names h) h.source e) (sym whole)
        (All-last (IsEntry c (frame_names x.last) x.last.source) x.left.entries.items e all) in (
          (
            record {
              for = record {
                beginnings = top.for.beginnings;
                depth = top.for.depth;
                wanted = top.for.wanted;
                first = top.for.first;
                last = top.for.last;
              };
              frames = subst (AreFrames c a s.beginnings (length files)) (sym fs) (
                frame,
                subst (λ k. length files ≤ k)
                    (sym (ap (λ h. h.files) x.same)) past,
                top.others,
              );
              opening = subst (λ o. ForSome o (IsOpening c s.beginnings (reverse w.frames.items))) (sym x.goes.still) (λ d h. absurd (cc));
              active = top.active ∙ ap (lists_at a) (sym named) ∙ sym (ap (lists_of a) fs);
            },
            x.goes.still,
            subst (λ gs. IsMet c gs e) (sym fs) entry,
          ),
          frames-left x.last x.goes.front s.way x.goes.free x.goes.before
              ∙ ap (λ gs. gs ++ flat_map (frame_left c a) (reverse x.goes.front))
              (ap (entries_left c a (frame_names x.last)) split ∙ ap (flat_map (λ d. met c a (frame_names x.last)
              d.name)) (reverse-last x.left.entries.items e))
              ∙ append_assoc (met c a (frame_names x.last) e.name) (entries_left c a (frame_names x.last)
              x.left.entries.items) (flat_map (frame_left c a) (reverse x.goes.front))
              ∙ ap₂ (λ gs hs. gs ++ hs)
              (ap (λ ns. met c a ns e.name) (sym named) ∙ sym (ap (λ gs. met_in c a gs e.name) fs))
              (ap (λ ns. entries_left c a ns x.left.entries.items ++ flat_map (frame_left c a) (reverse x.goes.front))
              (sym named) ∙ sym (frames-left x.left x.goes.front w x.goes.still x.goes.after)),
        )

    pub leaves-next : IsSound c a known s → (n : ℕ) → LeavesNext files s.way n w → HasWork c a known t (Leave n) ×
        (search_left c a s ≡ work_left c a t (Leave n) ++ search_left c a t)
    leaves-next sound n x =
        let (passes, past) = x.next in
        let top = top-of sound x.last x.passed (reverse w.frames.items) (reverse-from s.way.frames.items w.frames.items
        x.last x.before) passes in
        let names = frame_names x.last in
        let count : n ≡ length (lists_above a names) = x.active ∙ top.frame.active in (
          record {
            for = record {
              beginnings = top.for.beginnings;
              depth = top.for.depth;
              wanted = top.for.wanted;
              first = top.for.first;
              last = top.for.last;
            };
            free = x.still;
            frames = top.others;
            active = ap (take n) top.active ∙ take_at (lists_above a names) (lists_in a names) n (sym count) ∙ sym
                (lists-below a names (reverse w.frames.items) top.frame.below);
          },
          frames-left x.last w.frames.items s.way x.free x.before
              ∙ ap (λ es. entries_left c a names es ++ flat_map (frame_left c a) (reverse w.frames.items)) x.none
              ∙ sym (ap (λ e. opening_left c a e ++ flat_map (frame_left c a) (reverse w.frames.items)) x.still),
        )

    -- whatever the work is
    pub works-next : IsSound c a known s → (work : Work A) → NextWork files s.way (Some work) w → HasWork c a known t
        work × (search_left c a s ≡ work_left c a t work ++ search_left c a t)
    works-next sound (Enter o) (entering, free, same) = enters-next sound o entering free same
    works-next sound (Read n) x = reads-next sound n x
    works-next sound (Meet e) x = meets-next sound e x
    works-next sound (Leave n) x = leaves-next sound n x

-- nothing is left if nothing is done next
pub done-left : {A : Type 0} (c : Content) (a : Aim) (w : Way A) → IsDone w → way_left c a w ≡ []
done-left c a w (free, none) = ap₂ (λ e fs. opening_left c a e ++ flat_map (frame_left c a) (reverse fs)) free (no-items w.frames none)

pub may-enter : {A : Type 0} (w : Way A) (o : Opening A) (path : Text) (alive : List ℕ) → string_bytes o.path ≡ path → o.alive.items ≡ alive
    → MayEnter true path alive w (record w { entering = Some o })
may-enter w o path alive named living = (record { opening = o; next = refl; named = named; living = living }, refl)

map-take : {X Y : Type 0} (f : X → Y) (n : ℕ) (xs : List X) → map f (take n xs) ≡ take n (map f xs)
map-take f zero xs = refl
map-take f (suc n) [] = refl
map-take f (suc n) (x ∷ xs) = ap (λ ys. f x ∷ ys) (map-take f n xs)

-- a directory was left
pub leaves-keeps : {A : Type 0} (c : Content) (a : Aim) (known : Text → Option Text) (s t : Searcher A) (n : ℕ) → IsLeft c a s n
    → t ≡ record s { active = record s.active { files = t.active.files } } → t.active.files.items ≡ take n
    s.active.files.items → Keeps c a known (search_left c a s) t
leaves-keeps {A} c a known s t n l same cut =
    let moved = record s { active = record s.active { files = t.active.files } } in
    let v : FileRules A → ℕ × Ignores = λ f. (f.above, f.list) in
    let ready : IsReady c a moved = record {
      for = record { beginnings = l.for.beginnings; depth = l.for.depth; wanted = l.for.wanted; first = l.for.first; last = l.for.last };
      frames = l.frames;
      opening = subst (λ e. ForSome e (IsOpening c s.beginnings (reverse s.way.frames.items))) (sym l.free) (λ d h. absurd (cc));
      active = ap active_lists cut ∙ map-take v n s.active.files.items ∙ l.active;
    } in
    record { sound = subst (IsSound c a known) (sym same) (Ready ready); rest = ap (search_left c a) (sym same) }

pub keeps-at : {A : Type 0} (c : Content) (a : Aim) (known : Text → Option Text) (before was : List Gift)
    (s t : Searcher A) → was ≡ before → t ≡ s → Keeps c a known before s → Keeps c a known was t
keeps-at c a known before was s t same is k = record {
  sound = subst (IsSound c a known) (sym is) k.sound;
  rest = same
      ∙ k.rest ∙ ap (search_left c a) (sym is);
}

pub left-same : {A : Type 0} (s t : Searcher A) (v : Vec (FileRules A) A) → t ≡ record s {
  active = record s.active
      { files = v };
} → t ≡ record s { active = record s.active { files = t.active.files } }
left-same {A} s t v is = let f : Vec (FileRules A) A → Searcher A = λ u. record s {
  active = record s.active {
    files =
        u;
  };
} in is ∙ ap f (sym (ap (λ x. x.active.files) is))
