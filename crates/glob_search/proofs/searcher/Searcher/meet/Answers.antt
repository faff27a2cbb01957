use Rattle.std.proofs.Common.{◌≡◌, ◌-◌, ◌&&◌, ◌++◌, ◌∷◌, [], Some, true, false, length, nat_lt, string_bytes, ap, ap₂, refl, Bool, None}
use Rattle.std.proofs.Common.{sym, subst, ◌∙◌, arith}
use Rattle.std.specs.Prelude.{IfOk, OnOk, slice_get, unwrap_or}
use Rattle.std.specs.Option.{ForSome}
use Rattle.std.proofs.lemmas.Bool.{and_parts}
use Rattle.std.proofs.lemmas.Result.{err_from_is_err_and}
use Rattle.glob_tree.specs.Content.{Key, is_dir, kind_found}
use Rattle.glob_tree.specs.Paths.{child, is_proper}
use Rattle.glob_tree.proofs.ContentLemmas.Contents.{IsContent-from_test}
use Rattle.glob_search.specs.Aims.{path_of, wants}
use Rattle.glob_search.specs.Searching.{Aim, goes_on, is_ignored, is_taken}
use Rattle.glob_search.specs.Private.Engine.{Turns, found_if, frame_names}
use Rattle.glob_search.specs.Kept.{IsKept, is_ignored_by}
use Rattle.glob_search.specs.Private.Active.{AreActive, rules_here}
use Rattle.glob_search.specs.Private.Listings.{known_kind}
use Rattle.glob_search.specs.Private.Nodes.{AreAlive, AreBeginnings}
use Rattle.glob_search.specs.Private.Order.{IsPastWay}
use Rattle.glob_search.specs.Private.Steps.{MayEnter}
use Rattle.glob_search.specs.Private.Ways.{search_left}
use Rattle.glob_search.specs.declared.active.ActiveRules.{ActiveRules}
use Rattle.glob_search.proofs.EngineLemmas.Ending.{enters-frames}
use Rattle.glob_search.proofs.EngineLemmas.Meeting.{both-same, are_active, found-kept, ignored-same, met-file, met-ignored, met-nothing}
use Rattle.glob_search.proofs.EngineLemmas.Meeting.{met-of}
use Rattle.glob_search.proofs.EngineLemmas.Meeting.{not-known}
use Rattle.glob_search.proofs.EngineLemmas.Meeting.{on-else, on-then, passes, takes}
use Rattle.glob_search.proofs.EngineLemmas.Past.{meets-past, skips-past}
use Rattle.glob_search.proofs.EngineLemmas.Paths.{child-found, names-proper, proper-parts}
use Rattle.glob_search.proofs.EngineLemmas.Reading.{last-get, path-in}
use Rattle.glob_search.proofs.EngineLemmas.Stepping.{last-gives}
use Rattle.glob_search.proofs.EngineLemmas.Working.{keeps-at}
use Rattle.glob_search.proofs.searcher.Searcher.meet.Goals.{then-len-self, else-len-self}
use Rattle.glob_search.proofs.searcher.Searcher.meet.Goals as goal

pub returns-then-not-goes_on-clause-turns : goal.returns-then-not-goes_on-clause-turns
returns-then-not-goes_on-clause-turns g c = λ content a known answers (ready, free, met).
    let s = c.args.self.now in
    let good = IsContent-from_test content answers.told.1 in
    let m = met-of content a s c.args.entry ready met in
    let f-is : c.in-Some.frame.now ≡ m.f =
    last-get s.way.frames.items m.fs m.f c.in-Some.frame.now m.is (c.in-Some.ensures.value ∙ ap (λ xs. slice_get xs
    (length xs - 1)) c.deref.ensures.value) in
    let names = frame_names m.f in
    let n = c.args.entry.name in
    let key = names ++ n ∷ [] in
    let kind = m.entry.kind in
    let held = m.entry.held in
    let living : AreAlive s.beginnings key c.in_ok-alive.alive.items =
    subst (λ x. AreAlive s.beginnings (names ++ x ∷ []) c.in_ok-alive.alive.items) c.as_str.ensures (c.in_ok-alive.ensures.alive names
    (subst (AreAlive s.beginnings names) (sym (c.as_slice.ensures.value ∙ ap (λ h. h.alive.items) f-is)) m.frame.directory.alive)) in
    let taken = c.is_found-is_found.ensures.found a key ready.for.beginnings (subst (AreAlive s.beginnings key)
    (sym c.as_slice-2.ensures.value) living) in
    let deep : length key ≡ c.len.result = omega (arith, m.deep, c.len.ensures, s.way.frames.ok.0) in
    let on : c.if-len-self.goes_on ≡ (nat_lt (length key) a.depth && goes_on a key) = elim c.if-len-self.branch [
      | then-len-self w ↦ on-then c.len.result (length key) a.depth c.if-len-self.goes_on (goes_on a key) deep
          (omega (arith, w.if-len-self.true, ready.for.depth))
          (w.goes_on-is ∙ w.goes_on-goes_on.ensures.goes_on a key ready.for.beginnings
          (subst (AreAlive s.beginnings key) (sym w.as_slice-then-len-self.ensures.value) living))
      | else-len-self w ↦ on-else c.len.result (length key) a.depth s.depth c.if-len-self.goes_on (goes_on a key) deep
          ready.for.depth (omega (arith, w.if-len-self.false)) w.goes_on-is
    ] in
    keeps-at content a known _ _ s s (ap (λ gs. gs ++ search_left content a s) m.met-is) refl
    (passes content good a known s ready free m.f m.fs m.is n kind held s refl
    (met-nothing content a names n kind held (sym taken ∙ c.if-not-is_found.true) (sym on ∙ c.if-not-goes_on.true)))

pub returns-in_err-is_dir-clause-turns : goal.returns-in_err-is_dir-clause-turns
returns-in_err-is_dir-clause-turns g c = λ content a known answers work.
    let p = err_from_is_err_and c.from_residual-in_err-is_dir.result c.from_residual-in_err-is_dir.ensures.1 in
    rw (p.1, p.2) (last-gives content a known _ c.in_err-is_dir.field-0.0 c.kind_at.new.self c.in_err-is_dir.ensures.last)

pub returns-then-not-may_enter-clause-turns : goal.returns-then-not-may_enter-clause-turns
returns-then-not-may_enter-clause-turns g c = λ content a known answers (ready, free, met).
    let s = c.args.self.now in
    let good = IsContent-from_test content answers.told.1 in
    let m = met-of content a s c.args.entry ready met in
    let f-is : c.in-Some.frame.now ≡ m.f =
    last-get s.way.frames.items m.fs m.f c.in-Some.frame.now m.is (c.in-Some.ensures.value ∙ ap (λ xs. slice_get xs
    (length xs - 1)) c.deref.ensures.value) in
    let names = frame_names m.f in
    let n = c.args.entry.name in
    let key = names ++ n ∷ [] in
    let kind = m.entry.kind in
    let held = m.entry.held in
    let living : AreAlive s.beginnings key c.in_ok-alive.alive.items =
    subst (λ x. AreAlive s.beginnings (names ++ x ∷ []) c.in_ok-alive.alive.items) c.as_str.ensures (c.in_ok-alive.ensures.alive names
    (subst (AreAlive s.beginnings names) (sym (c.as_slice.ensures.value ∙ ap (λ h. h.alive.items) f-is)) m.frame.directory.alive)) in
    let taken = c.is_found-is_found.ensures.found a key ready.for.beginnings (subst (AreAlive s.beginnings key)
    (sym c.as_slice-2.ensures.value) living) in
    let known-is : ForSome c.kind_of-known.result (λ d. d ≡ is_dir kind) =
    subst (λ o. ForSome o (λ d. d ≡ is_dir kind)) (sym (c.kind_of-known.ensures ∙ ap
    (λ h. known_kind h.source c.args.entry) f-is)) m.entry.known in
    keeps-at content a known _ _ s s (ap (λ gs. gs ++ search_left content a s) m.met-is) refl
    (passes content good a known s ready free m.f m.fs m.is n kind held s refl
    (met-file content a names n kind held (sym taken ∙ c.if-not-is_found-2.true)
    (not-known c.kind_of-known.result (is_dir kind) (sym c.unwrap_or-may_enter.ensures ∙ c.if-not-may_enter.true) known-is)))

pub returns-then-not-may_enter-clause-later : goal.returns-then-not-may_enter-clause-later
returns-then-not-may_enter-clause-later g c = λ past work. skips-past c.args.self.now.beginnings past c.args.entry c.args.self.now.way work

pub returns-then-branch-clause-turns : goal.returns-then-branch-clause-turns
returns-then-branch-clause-turns g c = λ content a known answers (ready, free, met).
    let s = c.args.self.now in
    let good = IsContent-from_test content answers.told.1 in
    let m = met-of content a s c.args.entry ready met in
    let f-is : c.in-Some.frame.now ≡ m.f =
    last-get s.way.frames.items m.fs m.f c.in-Some.frame.now m.is (c.in-Some.ensures.value ∙ ap (λ xs. slice_get xs
    (length xs - 1)) c.deref.ensures.value) in
    let names = frame_names m.f in
    let n = c.args.entry.name in
    let key = names ++ n ∷ [] in
    let kind = m.entry.kind in
    let held = m.entry.held in
    let living : AreAlive s.beginnings key c.in_ok-alive.alive.items =
    subst (λ x. AreAlive s.beginnings (names ++ x ∷ []) c.in_ok-alive.alive.items) c.as_str.ensures (c.in_ok-alive.ensures.alive names
    (subst (AreAlive s.beginnings names) (sym (c.as_slice.ensures.value ∙ ap (λ h. h.alive.items) f-is)) m.frame.directory.alive)) in
    let taken = c.is_found-is_found.ensures.found a key ready.for.beginnings (subst (AreAlive s.beginnings key)
    (sym c.as_slice-2.ensures.value) living) in
    let deep : length key ≡ c.len.result = omega (arith, m.deep, c.len.ensures, s.way.frames.ok.0) in
    let on : c.if-len-self.goes_on ≡ (nat_lt (length key) a.depth && goes_on a key) = elim c.if-len-self.branch [
      | then-len-self w ↦ on-then c.len.result (length key) a.depth c.if-len-self.goes_on (goes_on a key) deep
          (omega (arith, w.if-len-self.true, ready.for.depth))
          (w.goes_on-is ∙ w.goes_on-goes_on.ensures.goes_on a key ready.for.beginnings
          (subst (AreAlive s.beginnings key) (sym w.as_slice-then-len-self.ensures.value) living))
      | else-len-self w ↦ on-else c.len.result (length key) a.depth s.depth c.if-len-self.goes_on (goes_on a key) deep
          ready.for.depth (omega (arith, w.if-len-self.false)) w.goes_on-is
    ] in
    let proper = names-proper content good content.current key kind held in
    let there = m.frame.directory.there in
    let path-is : string_bytes c.in_ok-path.path ≡ path_of key =
    path-in names n c.as_str-2.result.now c.as_str-3.result.now (string_bytes c.in_ok-path.path) (proper-parts names (n ∷ []) proper).0
    (c.as_str-2.ensures.value ∙ ap (λ h. string_bytes h.path) f-is ∙ m.frame.directory.path) c.as_str-3.ensures c.in_ok-path.ensures in
    let found-kind : kind_found content c.as_str-4.result.now ≡ Some kind =
    ap (kind_found content) (c.as_str-4.ensures.value ∙ path-is) ∙ child-found content good names n there
    (and_parts (is_proper n) true (proper-parts names (n ∷ []) proper).1).0 ∙ held in
    let known-is : ForSome c.kind_of-known.result (λ d. d ≡ is_dir kind) =
    subst (λ o. ForSome o (λ d. d ≡ is_dir kind)) (sym (c.kind_of-known.ensures ∙ ap
    (λ h. known_kind h.source c.args.entry) f-is)) m.entry.known in
    let learned = c.in_ok-is_dir.ensures.kind content kind answers.told found-kind known-is in
    let matters = c.in_ok-is_dir.ensures.matters in
    let same = c.in_ok-is_dir.ensures.same in
    let u = c.kind_at.new.self in
    let are_active' : AreActive a names u.active = subst (λ x. AreActive a names x.active) (sym same) (are_active content good a known s
    ready free m.f m.fs m.is n kind held) in
    let out : c.in_ok-is_left_out.field-0 ≡ is_ignored a key (is_dir kind) =
    c.in_ok-is_left_out.ensures.out a known names n answers.same are_active' proper (c.as_str-5.ensures.value ∙ path-is)
    ∙ ap (is_ignored a key) c.unwrap_or.ensures
    ∙ ignored-same content good a known s ready free m.f m.fs m.is n kind held c.if-len-self.goes_on
    c.in_ok-is_dir.is_dir c.as_str-4.result.now (c.as_str-4.ensures.value ∙ path-is) learned matters in
    keeps-at content a known _ _ u u (ap (λ gs. gs ++ search_left content a s) m.met-is) refl
    (passes content good a known s ready free m.f m.fs m.is n kind held u same (met-ignored content a names n kind held
    (sym out ∙ c.if-branch.true)))

pub returns-clause-turns : goal.returns-clause-turns
returns-clause-turns g c = λ content a known answers (ready, free, met).
    let s = c.args.self.now in
    let good = IsContent-from_test content answers.told.1 in
    let m = met-of content a s c.args.entry ready met in
    let f-is : c.in-Some.frame.now ≡ m.f =
    last-get s.way.frames.items m.fs m.f c.in-Some.frame.now m.is (c.in-Some.ensures.value ∙ ap (λ xs. slice_get xs
    (length xs - 1)) c.deref.ensures.value) in
    let names = frame_names m.f in
    let n = c.args.entry.name in
    let key = names ++ n ∷ [] in
    let kind = m.entry.kind in
    let held = m.entry.held in
    let living : AreAlive s.beginnings key c.in_ok-alive.alive.items =
    subst (λ x. AreAlive s.beginnings (names ++ x ∷ []) c.in_ok-alive.alive.items) c.as_str.ensures (c.in_ok-alive.ensures.alive names
    (subst (AreAlive s.beginnings names) (sym (c.as_slice.ensures.value ∙ ap (λ h. h.alive.items) f-is)) m.frame.directory.alive)) in
    let taken = c.is_found-is_found.ensures.found a key ready.for.beginnings (subst (AreAlive s.beginnings key)
    (sym c.as_slice-2.ensures.value) living) in
    let deep : length key ≡ c.len.result = omega (arith, m.deep, c.len.ensures, s.way.frames.ok.0) in
    let on : c.if-len-self.goes_on ≡ (nat_lt (length key) a.depth && goes_on a key) = elim c.if-len-self.branch [
      | then-len-self w ↦ on-then c.len.result (length key) a.depth c.if-len-self.goes_on (goes_on a key) deep
          (omega (arith, w.if-len-self.true, ready.for.depth))
          (w.goes_on-is ∙ w.goes_on-goes_on.ensures.goes_on a key ready.for.beginnings
          (subst (AreAlive s.beginnings key) (sym w.as_slice-then-len-self.ensures.value) living))
      | else-len-self w ↦ on-else c.len.result (length key) a.depth s.depth c.if-len-self.goes_on (goes_on a key) deep
          ready.for.depth (omega (arith, w.if-len-self.false)) w.goes_on-is
    ] in
    let proper = names-proper content good content.current key kind held in
    let there = m.frame.directory.there in
    let path-is : string_bytes c.in_ok-path.path ≡ path_of key =
    path-in names n c.as_str-2.result.now c.as_str-3.result.now (string_bytes c.in_ok-path.path) (proper-parts names (n ∷ []) proper).0
    (c.as_str-2.ensures.value ∙ ap (λ h. string_bytes h.path) f-is ∙ m.frame.directory.path) c.as_str-3.ensures c.in_ok-path.ensures in
    let found-kind : kind_found content c.as_str-4.result.now ≡ Some kind =
    ap (kind_found content) (c.as_str-4.ensures.value ∙ path-is) ∙ child-found content good names n there
    (and_parts (is_proper n) true (proper-parts names (n ∷ []) proper).1).0 ∙ held in
    let known-is : ForSome c.kind_of-known.result (λ d. d ≡ is_dir kind) =
    subst (λ o. ForSome o (λ d. d ≡ is_dir kind)) (sym (c.kind_of-known.ensures ∙ ap
    (λ h. known_kind h.source c.args.entry) f-is)) m.entry.known in
    let learned = c.in_ok-is_dir.ensures.kind content kind answers.told found-kind known-is in
    let matters = c.in_ok-is_dir.ensures.matters in
    let same = c.in_ok-is_dir.ensures.same in
    let u = c.kind_at.new.self in
    let are_active' : AreActive a names u.active = subst (λ x. AreActive a names x.active) (sym same) (are_active content good a known s
    ready free m.f m.fs m.is n kind held) in
    let out : c.in_ok-is_left_out.field-0 ≡ is_ignored a key (is_dir kind) =
    c.in_ok-is_left_out.ensures.out a known names n answers.same are_active' proper (c.as_str-5.ensures.value ∙ path-is)
    ∙ ap (is_ignored a key) c.unwrap_or.ensures
    ∙ ignored-same content good a known s ready free m.f m.fs m.is n kind held c.if-len-self.goes_on
    c.in_ok-is_dir.is_dir c.as_str-4.result.now (c.as_str-4.ensures.value ∙ path-is) learned matters in
    let t = c.take.new.self in
    let d = c.in_ok-is_dir.is_dir in
    subst (λ gs. Turns content a known (gs ++ search_left content a s) c.take.result t) (sym m.met-is)
    (takes content good a known s ready free m.f m.fs m.is n kind held t c.take.result c.in_ok-path.path
    c.in_ok-alive.alive.items d c.if-len-self.goes_on c.is_found-is_found.result
    c.as_str-4.result.now path-is living taken on (sym out ∙ c.if-branch.false) learned matters (both-same s u t same c.take.ensures.same)
    (subst (λ x. OnOk c.take.result (MayEnter (c.if-len-self.goes_on && unwrap_or d false)
    (string_bytes c.in_ok-path.path) c.in_ok-alive.alive.items x.way t.way)) same c.take.ensures.enters)
    (subst (λ x. IfOk c.take.result (λ o. o ≡ found_if (c.is_found-is_found.result && wants x.wanted
    (unwrap_or d false)) c.in_ok-path.path d)) same c.take.ensures.finds)
    c.take.ensures.last)

pub returns-in_err-is_dir-clause-later : goal.returns-in_err-is_dir-clause-later
returns-in_err-is_dir-clause-later g c = λ past work.
    let p = err_from_is_err_and c.from_residual-in_err-is_dir.result c.from_residual-in_err-is_dir.ensures.1 in
    rw (p.1, p.2) (λ goes. subst (IsPastWay c.args.self.now.beginnings past) (sym (ap (λ x. x.way) c.in_err-is_dir.ensures.same))
    (skips-past c.args.self.now.beginnings past c.args.entry c.args.self.now.way work))

pub returns-then-branch-clause-later : goal.returns-then-branch-clause-later
returns-then-branch-clause-later g c = λ past work.
    let s = c.args.self.now in
    subst (IsPastWay s.beginnings past) (sym (ap (λ x. x.way) c.in_ok-is_dir.ensures.same))
    (skips-past s.beginnings past c.args.entry s.way work)

pub returns-then-not-goes_on-clause-later : goal.returns-then-not-goes_on-clause-later
returns-then-not-goes_on-clause-later g c = λ past work. skips-past c.args.self.now.beginnings past c.args.entry c.args.self.now.way work

pub returns-clause-later : goal.returns-clause-later
returns-clause-later g c = λ past work.
    let s = c.args.self.now in
    let frame = c.in-Some.frame.now in
    let t = c.take.new.self in
    let d = c.in_ok-is_dir.is_dir in
    let same = ap (λ x. x.way) c.in_ok-is_dir.ensures.same in
    let taken-is : (a : Aim) (names : Key) → AreBeginnings a.options a.patterns s.beginnings
    → AreAlive s.beginnings names c.in_ok-alive.alive.items → c.is_found-is_found.result ≡ is_taken a names =
    λ a names for living. c.is_found-is_found.ensures.found a names for
    (subst (AreAlive s.beginnings names) (sym c.as_slice-2.ensures.value) living) in
    let follow : (names : Key) → AreAlive s.beginnings names frame.alive.items
    → AreAlive s.beginnings (names ++ c.args.entry.name ∷ []) c.in_ok-alive.alive.items = λ names living.
    subst (λ x. AreAlive s.beginnings (names ++ x ∷ []) c.in_ok-alive.alive.items) c.as_str.ensures
    (c.in_ok-alive.ensures.alive names (subst (AreAlive s.beginnings names) (sym c.as_slice.ensures.value) living)) in
    meets-past s.beginnings past c.args.entry s.way t.way (c.if-len-self.goes_on && unwrap_or d false)
    (wants c.kind_at.new.self.wanted (unwrap_or d false)) c.is_found-is_found.result
    c.in_ok-path.path c.in_ok-alive.alive.items d c.take.result taken-is
    (subst (λ w. OnOk c.take.result (MayEnter (c.if-len-self.goes_on && unwrap_or d false)
    (string_bytes c.in_ok-path.path) c.in_ok-alive.alive.items w t.way)) same c.take.ensures.enters)
    c.take.ensures.finds c.take.ensures.last frame work
    (λ f fs is. last-get s.way.frames.items fs f frame is (c.in-Some.ensures.value ∙ ap (λ xs. slice_get xs
    (length xs - 1)) c.deref.ensures.value))
    (c.in_ok-path.ensures ∙ ap (λ p. child p c.as_str-3.result.now) c.as_str-2.ensures.value ∙ ap
    (child (string_bytes frame.path)) c.as_str-3.ensures)
    follow

pub returns-clause-kept : goal.returns-clause-kept
returns-clause-kept g c =
    let s = c.args.self.now in
    let u = c.kind_at.new.self in
    let t = c.take.new.self in
    let path = string_bytes c.in_ok-path.path in
    let d = c.in_ok-is_dir.is_dir in
    let same : u.active ≡ s.active = ap (λ x. x.active) c.in_ok-is_dir.ensures.same in
    let says : Bool → Bool = λ e. is_ignored_by (rules_here u.active) path e in
    let out : says (unwrap_or d false) ≡ false =
    ap₂ (λ p e. is_ignored_by (rules_here u.active) p e) (sym c.as_str-5.ensures.value) (sym c.unwrap_or.ensures)
    ∙ c.in_ok-is_left_out.ensures.read c.if-branch.false in
    let both : d ≡ None → says true ≡ says false = λ unknown.
    subst (λ (h : ActiveRules _). is_ignored_by (rules_here h) path true ≡ is_ignored_by (rules_here h) path false) (sym same)
    (subst (λ p. is_ignored_by (rules_here s.active) p true ≡ is_ignored_by (rules_here s.active) p false) c.as_str-4.ensures.value
    (c.in_ok-is_dir.ensures.matters unknown).1.read) in
    subst (λ (h : ActiveRules _). IfOk c.take.result (λ o. ForSome o (IsKept (rules_here h))))
    (sym (ap (λ x. x.active) c.take.ensures.same))
    (found-kept u.active c.take.result _ c.in_ok-path.path d c.take.ensures.finds out both)

pub returns-clause-frames : goal.returns-clause-frames
returns-clause-frames g c =
    let u = c.kind_at.new.self in
    let was : u.way.frames ≡ c.args.self.now.way.frames = ap (λ x. x.way.frames) c.in_ok-is_dir.ensures.same in
    subst (λ fs. OnOk c.take.result (c.take.new.self.way.frames ≡ fs)) was
    (enters-frames _ (string_bytes c.in_ok-path.path) c.in_ok-alive.alive.items u.way c.take.new.self.way c.take.result
    c.take.ensures.enters)
