-- A directory is put on the way.
use Rattle.std.proofs.Common.{◌≡◌, ℕ, ◌<◌, ⊎_elim, true, List, [], ◌∷◌, ◌++◌, flat_map, length}
use Rattle.std.proofs.Common.{Option, None, Result, Ok, Err, refl, ap, ap₂, sym, subst, ◌∙◌, arith}
use Rattle.std.specs.Prelude.{IfErr, OnOk, Vec, reverse, string_bytes, vec_len}
use Rattle.std.specs.IoError.{error_kind}
use Rattle.std.proofs.Math.Nat.{eq-zero-or-pos}
use Rattle.std.proofs.lemmas.List.{append-nil}
use Rattle.glob_text.specs.Text.{Text}
use Rattle.glob_tree.specs.Content.{Content, Key}
use Rattle.glob_tree.specs.declared.tree.Entry.{Entry}
use Rattle.glob_search.specs.Searching.{Aim}
use Rattle.glob_search.specs.Visiting.{Gift, Unread}
use Rattle.glob_search.specs.Private.Engine.{AreEntries, EntriesGive, FaultGives, GoesOn, IsBelow}
use Rattle.glob_search.specs.Private.Engine.{IsOpening, IsReading, IsReady, IsSound, Keeps, Reading, Ready}
use Rattle.glob_search.specs.Private.Engine.{StepsInto, frame_names, lists_of, opening_names}
use Rattle.glob_search.specs.States.{is_last}
use Rattle.glob_search.specs.Private.Active.{active_lists, lists_above}
use Rattle.glob_search.specs.Private.Ways.{entries_left, frame_left, opening_left, search_left, visited}
use Rattle.glob_search.specs.declared.fault.SearchFault.{SearchFault}
use Rattle.glob_search.specs.declared.fault.SearchFault.TheVariants as fault
use Rattle.glob_search.specs.declared.frame.Frame.{Frame}
use Rattle.glob_search.specs.declared.frame.Opening.{Opening}
use Rattle.glob_search.specs.declared.frame.Source.{Source}
use Rattle.glob_search.specs.declared.meter.Meter.{Meter}
use Rattle.glob_search.specs.declared.searcher.Searcher.{Searcher}
use Rattle.glob_search.specs.declared.way.Way.{Way}
use Rattle.glob_search.proofs.EngineLemmas.Lasts.{reverse-from}
use Rattle.glob_search.proofs.EngineLemmas.Passing.{no-items}
use Rattle.glob_search.proofs.ActiveLemmas.{length-active_lists, lists_above-child}

-- the frame of a directory
abbrev pub frame_of : {A : Type 0} → Opening A → Source → Vec (Entry A) A → ℕ → Frame A
frame_of o source entries active = record { path = o.path; alive = o.alive; source = source; entries = entries; files = 0; active = active }

pub frame-active : {A : Type 0} (o : Opening A) (source : Source) (entries : Vec (Entry A) A) {n m : ℕ} → n ≡ m
    → frame_of o source entries n ≡ frame_of o source entries m
frame-active o source entries same = ap (frame_of o source entries) same

-- the rules that are active below the last directory
pub lists-below : {A : Type 0} (a : Aim) (names : Key) (fs : List (Frame A)) → IsBelow names fs → lists_of a fs ≡ lists_above a names
lists-below a names [] below = ap (lists_above a) (sym below)
lists-below a names (f ∷ fs) (n, is) = sym (ap (lists_above a) is ∙ lists_above-child a (frame_names f) n)

pub last-gives : {A : Type 0} (c : Content) (a : Aim) (known : Text → Option Text) (before : List Gift) (f : SearchFault A)
    (s : Searcher A) → is_last f ≡ true → FaultGives c a known before f s
last-gives c a known before (fault.Unread text e) s h = absurd (cc)
last-gives c a known before (fault.UnreadRules text e) s h = absurd (cc)
last-gives c a known before (fault.RefusedRules text refusals) s h = absurd (cc)
last-gives c a known before fault.Limit s h = tt
last-gives c a known before fault.Memory s h = tt

-- what is charged does not matter
pub ready-charged : {A : Type 0} (c : Content) (a : Aim) (s t : Searcher A) → t ≡ record s { meter = t.meter }
    → IsReady c a s → IsReady c a t
ready-charged c a s t same r =
    let moved : IsReady c a (record s { meter = t.meter }) = record {
      for = record { beginnings = r.for.beginnings; depth = r.for.depth; wanted = r.for.wanted; first = r.for.first; last = r.for.last };
      frames = r.frames;
      opening = r.opening;
      active = r.active;
    } in
    subst (IsReady c a) (sym same) moved

pub left-charged : {A : Type 0} (c : Content) (a : Aim) (s t : Searcher A) → t ≡ record s { meter = t.meter }
    → search_left c a s ≡ search_left c a t
left-charged c a s t same = ap (search_left c a) (sym same)

-- nothing is entered next
pub left-free : {A : Type 0} (c : Content) (a : Aim) (s : Searcher A) → s.way.entering ≡ None
    → search_left c a s ≡ flat_map (frame_left c a) (reverse s.way.frames.items)
left-free c a s free = ap (λ e. opening_left c a e ++ flat_map (frame_left c a) (reverse s.way.frames.items)) free

module _ {A : Type 0} (c : Content) (a : Aim) (known : Text → Option Text) (s : Searcher A) (o : Opening A)
    (ready : IsReady c a s) (free : s.way.entering ≡ None)
    (opening : IsOpening c s.beginnings (reverse s.way.frames.items) o) where
  abbrev names : Key
  names = opening_names o

  -- the directory cannot be listed
  pub shut-gives : (t : Searcher A) → t ≡ record s { meter = t.meter } → (source : Source) (f : SearchFault A)
      → EntriesGive {A = A} c a names source (string_bytes o.path) (Err f)
      → FaultGives c a known (visited c a names ++ search_left c a s) f t
  shut-gives t same source (fault.Unread text e) (path, gives) = record {
    names = names;
    path = path ∙ opening.directory.path;
    ready = ready-charged c a s t same ready;
    rest = ap (λ gs. gs ++ search_left c a s) gives ∙ ap (λ gs. Unread names (error_kind e) ∷ gs) (left-charged c a s t same);
  }
  shut-gives t same source (fault.UnreadRules text e) gives = absurd gives
  shut-gives t same source (fault.RefusedRules text refusals) gives = absurd gives
  shut-gives t same source fault.Limit gives = tt
  shut-gives t same source fault.Memory gives = tt

  -- nothing is in it
  empty-keeps : (t : Searcher A) → t ≡ record s { meter = t.meter; way = t.way } → (es : Vec (Entry A) A)
      (source : Source) → AreEntries c a names source es.items
      → vec_len es ≡ 0 → t.way ≡ s.way → Keeps c a known (visited c a names ++ search_left c a s) t
  empty-keeps t same es source g none still =
      let whole : t ≡ record s { meter = t.meter } = same ∙ (let f : Way A → Searcher A = λ w. record s {
        meter =
            t.meter;
        way = w;
      } in ap f still) in
      let nothing : visited c a names ≡ [] = sym g.gives ∙ ap (entries_left c a names) (no-items es none) in
      record {
        sound = Ready (ready-charged c a s t whole ready);
        rest = ap (λ gs. gs ++ search_left c a s) nothing ∙ left-charged c a s t whole;
      }

  -- it is put on the way
  step-keeps : (t : Searcher A) → t ≡ record s { meter = t.meter; way = t.way } → (es : Vec (Entry A) A)
      (source : Source) → AreEntries c a names source es.items
      → (last : Frame A) → last ≡ frame_of o source es (vec_len s.active.files) → t.way.frames.items ≡
      s.way.frames.items ++ last ∷ [] → t.way.entering ≡ s.way.entering
      → Keeps c a known (visited c a names ++ search_left c a s) t
  step-keeps t same es source g last is pushed still =
      let made = frame_of o source es (vec_len s.active.files) in
      let frames : reverse t.way.frames.items ≡ made ∷ reverse s.way.frames.items =
      reverse-from t.way.frames.items s.way.frames.items last pushed ∙ ap (λ f. f ∷ reverse s.way.frames.items) is in
      let moved = record s { meter = t.meter; way = t.way } in
      let above : active_lists s.active.files.items ≡ lists_above a names = ready.active ∙ lists-below a names
      (reverse s.way.frames.items) opening.below in
      let reading : IsReading c a known moved 0 = record {
        for = record {
          beginnings = ready.for.beginnings;
          depth = ready.for.depth;
          wanted = ready.for.wanted;
          first = ready.for.first;
          last = ready.for.last;
        };
        free = still ∙ free;
        last = made;
        above = reverse s.way.frames.items;
        frames = frames;
        frame = record {
          directory = opening.directory;
          below = opening.below;
          entries = g.each;
          active = omega (arith, s.active.files.ok.0, sym (ap length above) ∙ length-active_lists s.active.files.items);
        };
        others = ready.frames;
        active = above ∙ sym (append-nil (lists_above a names));
        whole = g.whole;
      } in
      let free' : t.way.entering ≡ None = still ∙ free in
      let rest : visited c a names ++ search_left c a s ≡ search_left c a moved =
      ap₂ (λ gs hs. gs ++ hs) (sym g.gives) (left-free c a s free)
      ∙ sym (ap₂ (λ e fs. opening_left c a e ++ flat_map (frame_left c a) fs) free' frames) in
      record {
        sound = subst (IsSound c a known) (sym same) (Reading 0 reading refl);
        rest = rest ∙ ap (search_left c a) (sym same);
      }

  pub enters : {B : Type 0} (u t : Searcher A) → u ≡ record s { meter = u.meter } → t ≡ record u { way = t.way } →
      (es : Vec (Entry A) A) (source : Source)
      → AreEntries c a names source es.items → (vec_len es ≡ 0 → t.way ≡ u.way) → (r : Result B (SearchFault A))
      → OnOk r (0 < vec_len es → StepsInto o source es u t)
      → IfErr r (λ f. is_last f ≡ true) → GoesOn c a known (visited c a names ++ search_left c a s) r t
  enters u t same-u same-t es source g none (Err f) steps other = last-gives c a known _ f t other
  enters u t same-u same-t es source g none (Ok done) steps other = ⊎_elim
      (λ zero. empty-keeps t same es source g zero (none zero ∙ ap (λ x. x.way) same-u))
      (λ some.
      let into = steps some in
      step-keeps t same es source g into.last (into.is ∙ ap (λ x. frame_of o source es (vec_len x.active.files)) same-u)
      (into.frames ∙ ap (λ x. x.way.frames.items ++ into.last ∷ []) same-u) (into.still ∙ ap (λ x. x.way.entering) same-u))
      (eq-zero-or-pos (vec_len es))
    where
      same : t ≡ record s { meter = t.meter; way = t.way }
      same =
          let f : Searcher A → Searcher A = λ x. record x { way = t.way } in
          let first : t ≡ record s { meter = u.meter; way = t.way } = same-t ∙ ap f same-u in
          let g' : Meter → Searcher A = λ m. record s { meter = m; way = t.way } in
          first ∙ ap g' (sym (ap (λ x. x.meter) first))
