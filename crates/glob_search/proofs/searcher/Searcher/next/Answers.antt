use Rattle.std.proofs.Common.{◌≡◌, ◌+◌, ◌-◌, ◌<◌, ◌++◌, ◌∷◌, [], Ok, Some, map, string_bytes, ap, sym, subst, ◌∙◌, arith}
use Rattle.std.proofs.lemmas.Bool.{both_ways}
use Rattle.std.proofs.lemmas.List.{append-nil, append_assoc}
use Rattle.glob_search.specs.Aims.{AreTextsOf}
use Rattle.glob_search.specs.States.{FitsFiles, is_last}
use Rattle.glob_search.specs.Visiting.{Found}
use Rattle.glob_search.specs.Kept.{AreOfFiles}
use Rattle.glob_search.specs.Private.Active.{active_lists}
use Rattle.glob_search.specs.declared.active.ActiveRules.{ActiveRules}
use Rattle.glob_search.specs.Private.Engine.{Ready, Turns, file_names, work_left}
use Rattle.glob_search.specs.Private.Nodes.{AreBeginnings}
use Rattle.glob_search.specs.Private.Order.{IsPastWay, TurnsLater}
use Rattle.glob_search.specs.Private.Steps.{NextWork}
use Rattle.glob_search.specs.Private.Ways.{IsDone, search_left}
use Rattle.glob_search.specs.Private.Weights.{Takes, items_left, stock, work_stock}
use Rattle.glob_search.proofs.EngineLemmas.Ending.{done-left as done-none, last_left-most, next-last, next-unmet}
use Rattle.glob_search.proofs.EngineLemmas.Going.{ends-fault, gives-fault, same-files}
use Rattle.glob_search.specs.declared.meter.Meter.{Meter}
use Rattle.glob_search.specs.declared.searcher.Searcher.{Searcher}
use Rattle.glob_search.proofs.EngineLemmas.Passing.{not-next}
use Rattle.glob_search.proofs.EngineLemmas.Past.{done-past, works-past}
use Rattle.glob_search.proofs.EngineLemmas.Working.{done-left, works-next}
use Rattle.glob_search.proofs.searcher.Searcher.next.Goals.{then-is_last, else-is_last}
use Rattle.glob_search.proofs.searcher.Searcher.next.Goals as goal

pub loop-work-preserved : goal.loop-work-preserved
loop-work-preserved g c =
    let i = c.loop-work.invariant in
    record {
      limit = c.in-Ok-None.ensures.limit ∙ i.limit;
      depth = c.in-Ok-None.ensures.depth ∙ i.depth;
      spent = omega (arith, c.in-Ok-None.ensures.spent, i.spent);
      files = c.in-Ok-None.ensures.files ∙ i.files;
      beginnings = c.in-Ok-None.ensures.beginnings ∙ i.beginnings;
      lists = record {
        first = c.in-Ok-None.ensures.lists.first ∙ i.lists.first;
        last = c.in-Ok-None.ensures.lists.last ∙ i.lists.last;
      };
      read = λ known same were.
          let s = c.loop-work.self in
          let names = same-files c.args.self.now s i.files in
          subst (λ fs. AreOfFiles known fs (active_lists c.turn.new.self.active.files.items)) names
          (c.in-Ok-None.ensures.read known (i.texts ∙ same)
          (subst (λ fs. AreOfFiles known fs (active_lists s.active.files.items)) (sym names) (i.read known same were)));
      kinds = c.in-Ok-None.ensures.kinds ∙ i.kinds;
      asked = omega (arith, c.in-Ok-None.ensures.asked, i.asked);
      stays = λ done. absurd (not-next c.next.result c.in-Some.work (c.next.ensures.stays (i.stays done)).0 c.in-Some.is);
      content = c.in-Ok-None.ensures.content ∙ i.content;
      texts = c.in-Ok-None.ensures.texts ∙ i.texts;
      goes = λ content a known answers sound.
          let k = i.goes content a known answers sound in
          let s = c.loop-work.self in
          let fit : AreTextsOf content a (file_names s) known = subst (λ fs. AreTextsOf content a fs known)
          (sym (same-files c.args.self.now s i.files)) answers.fit in
          let next = subst (λ xs. NextWork (map (λ f. string_bytes f) xs) s.way (Some c.in-Some.work) c.next.new.self)
          c.as_slice.ensures.value c.in-Some.ensures.work in
          let step = works-next content a known s fit answers.told.1 c.next.new.self k.sound c.in-Some.work next in
          let x = c.in-Ok-None.ensures.turns content a known
          (record {
            told = (i.content ∙ answers.told.0, answers.told.1);
            same = i.texts ∙ answers.same;
            fit =
                fit;
          }) step.0 in
          let t = record s { way = c.next.new.self } in
          let y = subst (λ o. Turns content a known (work_left content a t c.in-Some.work ++ search_left content a t)
          (Ok o) c.turn.new.self) c.in-Ok-None.field-0-is x in
          record { sound = y.sound; rest = k.rest ∙ step.1 ∙ y.rest };
      ascends = λ past was.
          let s = c.loop-work.self in
          let next = subst (λ xs. NextWork (map (λ f. string_bytes f) xs) s.way (Some c.in-Some.work) c.next.new.self)
          c.as_slice.ensures.value c.in-Some.ensures.work in
          subst (λ b. IsPastWay b past c.turn.new.self.way) (sym c.in-Ok-None.ensures.beginnings)
          (subst (λ o. TurnsLater s.beginnings past (Ok o) c.turn.new.self.way) c.in-Ok-None.field-0-is
          (c.in-Ok-None.ensures.later past
          (works-past s.beginnings past _ s.way c.next.new.self c.in-Some.work next (i.ascends past was))));
      falls =
          let s = c.loop-work.self in
          let next = subst (λ xs. NextWork (map (λ f. string_bytes f) xs) s.way (Some c.in-Some.work) c.next.new.self)
          c.as_slice.ensures.value c.in-Some.ensures.work in
          let takes = subst (λ o. Takes {A = g.row.A.Denot} (stock s.meter c.next.new.self + work_stock c.in-Some.work)
          (stock c.turn.new.self.meter c.turn.new.self.way) (Ok o)) c.in-Ok-None.field-0-is c.in-Ok-None.ensures.takes in
          omega (arith, takes, next-unmet _ s.way c.next.new.self c.in-Some.work next, i.falls);
      lasts =
          let s = c.loop-work.self in
          let next = subst (λ xs. NextWork (map (λ f. string_bytes f) xs) s.way (Some c.in-Some.work) c.next.new.self)
          c.as_slice.ensures.value c.in-Some.ensures.work in
          let t = c.turn.new.self.way in
          omega (arith, next-last _ s.way c.next.new.self c.in-Some.work next, last_left-most t.entering t.frames.items, i.lasts);
    }

pub returns-in-Ok-Some-clause-gives : goal.returns-in-Ok-Some-clause-gives
returns-in-Ok-Some-clause-gives g c = λ content a known answers all given had.
    let i = c.loop-work.invariant in
    let k = i.goes content a known answers had.agrees in
    let s = c.loop-work.self in
    let fit : AreTextsOf content a (file_names s) known = subst (λ fs. AreTextsOf content a fs known)
    (sym (same-files c.args.self.now s i.files)) answers.fit in
    let next = subst (λ xs. NextWork (map (λ f. string_bytes f) xs) s.way (Some c.in-Some.work) c.next.new.self)
    c.as_slice.ensures.value c.in-Some.ensures.work in
    let step = works-next content a known s fit answers.told.1 c.next.new.self k.sound c.in-Some.work next in
    let x = c.in-Ok-Some.ensures.turns content a known (record {
      told = (i.content ∙ answers.told.0, answers.told.1);
      same = i.texts ∙ answers.same;
      fit = fit;
    }) step.0 in
    let t = record s { way = c.next.new.self } in
    let y = subst (λ o. Turns content a known (work_left content a t c.in-Some.work ++ search_left content a t)
    (Ok o) c.turn.new.self) c.in-Ok-Some.field-0-is x in
    record {
      names = y.names;
      path = y.path;
      kind = y.kind;
      goes = record {
        agrees = Ready y.ready;
        upto = had.upto ∙ ap (λ gs. given ++ gs) (k.rest ∙ step.1 ∙ y.rest) ∙ sym (append_assoc given
            (Found y.names ∷ []) (search_left content a c.turn.new.self));
      };
    }

pub returns-in-Err-clause-gives : goal.returns-in-Err-clause-gives
returns-in-Err-clause-gives g c = λ content a known answers all given had.
    let i = c.loop-work.invariant in
    let k = i.goes content a known answers had.agrees in
    let s = c.loop-work.self in
    let fit : AreTextsOf content a (file_names s) known = subst (λ fs. AreTextsOf content a fs known)
    (sym (same-files c.args.self.now s i.files)) answers.fit in
    let next = subst (λ xs. NextWork (map (λ f. string_bytes f) xs) s.way (Some c.in-Some.work) c.next.new.self)
    c.as_slice.ensures.value c.in-Some.ensures.work in
    let step = works-next content a known s fit answers.told.1 c.next.new.self k.sound c.in-Some.work next in
    let x = c.in-Err.ensures.turns content a known (record {
      told = (i.content ∙ answers.told.0, answers.told.1);
      same
          = i.texts ∙ answers.same;
      fit = fit;
    }) step.0 in
    elim c.if-is_last.branch [
      | then-is_last w ↦ ends-fault content a known all given c.in-Err.fault c.if-is_last.self (sym c.is_last.ensures ∙ w.if-is_last.true)
      | else-is_last w ↦ gives-fault content a known all given c.in-Err.fault c.turn.new.self c.if-is_last.self _ w.self-is
          (had.upto ∙ ap (λ gs. given ++ gs) (k.rest ∙ step.1)) x
    ]

pub returns-clause-gives : goal.returns-clause-gives
returns-clause-gives g c = λ content a known answers all given had.
    let k = c.loop-work.invariant.goes content a known answers had.agrees in
    let s = c.loop-work.self in
    had.upto ∙ ap (λ gs. given ++ gs) (k.rest ∙ done-left content a s.way c.in_default.ensures.work) ∙ append-nil given

pub returns-in-Ok-Some-clause-ascends : goal.returns-in-Ok-Some-clause-ascends
returns-in-Ok-Some-clause-ascends g c = λ past was.
    let s = c.loop-work.self in
    let next = subst (λ xs. NextWork (map (λ f. string_bytes f) xs) s.way (Some c.in-Some.work) c.next.new.self)
    c.as_slice.ensures.value c.in-Some.ensures.work in
    let x = subst (λ o. TurnsLater s.beginnings past (Ok o) c.turn.new.self.way) c.in-Ok-Some.field-0-is
    (c.in-Ok-Some.ensures.later past (works-past s.beginnings past _ s.way c.next.new.self c.in-Some.work next
    (c.loop-work.invariant.ascends past was))) in
    let same = c.in-Ok-Some.ensures.beginnings in
    record {
      names = x.names;
      path = x.path;
      later = x.later;
      taken = λ a for. x.taken a (subst (AreBeginnings a.options a.patterns) same for);
      goes = subst (λ b. IsPastWay b x.names c.turn.new.self.way) (sym same) x.goes;
    }

pub returns-in-Err-clause-ascends : goal.returns-in-Err-clause-ascends
returns-in-Err-clause-ascends g c = λ past was.
    let s = c.loop-work.self in
    let next = subst (λ xs. NextWork (map (λ f. string_bytes f) xs) s.way (Some c.in-Some.work) c.next.new.self)
    c.as_slice.ensures.value c.in-Some.ensures.work in
    let x = c.in-Err.ensures.later past (works-past s.beginnings past _ s.way c.next.new.self c.in-Some.work next
    (c.loop-work.invariant.ascends past was)) in
    elim c.if-is_last.branch [
      | then-is_last w ↦ subst (λ (t : Searcher _). IsPastWay t.beginnings past t.way) (sym w.self-is)
          (done-past w.end.new.self.beginnings past w.end.new.self.way w.end.ensures.done)
      | else-is_last w ↦ subst (λ (t : Searcher _). IsPastWay t.beginnings past t.way) (sym w.self-is)
          (subst (λ b. IsPastWay b past c.turn.new.self.way) (sym c.in-Err.ensures.beginnings)
          (x (sym c.is_last.ensures ∙ w.if-is_last.false)))
    ]

pub returns-in-Ok-Some-clause-read : goal.returns-in-Ok-Some-clause-read
returns-in-Ok-Some-clause-read g c = λ known same were.
    let i = c.loop-work.invariant in
    let s = c.loop-work.self in
    let names = same-files c.args.self.now s i.files in
    subst (λ fs. AreOfFiles known fs (active_lists c.turn.new.self.active.files.items)) names
    (c.in-Ok-Some.ensures.read known (i.texts ∙ same)
    (subst (λ fs. AreOfFiles known fs (active_lists s.active.files.items)) (sym names) (i.read known same were)))

pub returns-in-Err-clause-read : goal.returns-in-Err-clause-read
returns-in-Err-clause-read g c = λ known same were.
    let i = c.loop-work.invariant in
    let s = c.loop-work.self in
    let names = same-files c.args.self.now s i.files in
    let all = subst (λ fs. AreOfFiles known fs (active_lists c.turn.new.self.active.files.items)) names
    (c.in-Err.ensures.read known (i.texts ∙ same)
    (subst (λ fs. AreOfFiles known fs (active_lists s.active.files.items)) (sym names) (i.read known same were))) in
    let kept : (t : Searcher _) → t.active ≡ c.turn.new.self.active
    → AreOfFiles known (file_names c.args.self.now) (active_lists t.active.files.items) = λ t is.
    subst (λ (h : ActiveRules _). AreOfFiles known (file_names c.args.self.now) (active_lists h.files.items)) (sym is) all in
    elim c.if-is_last.branch [
      | then-is_last w ↦ kept c.if-is_last.self (ap (λ x. x.active) w.self-is ∙ w.end.ensures.active)
      | else-is_last w ↦ kept c.if-is_last.self (ap (λ x. x.active) w.self-is)
    ]

pub returns-in-Ok-Some-clause-stays : goal.returns-in-Ok-Some-clause-stays
returns-in-Ok-Some-clause-stays g c = λ done.
    absurd (not-next c.next.result c.in-Some.work (c.next.ensures.stays (c.loop-work.invariant.stays done)).0 c.in-Some.is)

pub returns-in-Err-clause-stays : goal.returns-in-Err-clause-stays
returns-in-Err-clause-stays g c = λ done.
    absurd (not-next c.next.result c.in-Some.work (c.next.ensures.stays (c.loop-work.invariant.stays done)).0 c.in-Some.is)

pub returns-in-Err-clause-ends : goal.returns-in-Err-clause-ends
returns-in-Err-clause-ends g c = λ last. elim c.if-is_last.branch [
  | then-is_last w ↦ subst (λ (t : Searcher _). IsDone t.way) (sym w.self-is) w.end.ensures.done
  | else-is_last w ↦ absurd (both_ways (is_last c.in-Err.fault) (sym c.is_last.ensures ∙ w.if-is_last.false) last)
]

pub returns-in-Ok-Some-clause-known : goal.returns-in-Ok-Some-clause-known
returns-in-Ok-Some-clause-known g c = λ kinds.
    c.in-Ok-Some.ensures.known (c.loop-work.invariant.kinds ∙ kinds) c.in-Ok-Some.found c.in-Ok-Some.field-0-is

pub returns-in-Ok-Some-clause-kept : goal.returns-in-Ok-Some-clause-kept
returns-in-Ok-Some-clause-kept g c = c.in-Ok-Some.ensures.kept c.in-Ok-Some.found c.in-Ok-Some.field-0-is

pub returns-in-Ok-Some-clause-falls : goal.returns-in-Ok-Some-clause-falls
returns-in-Ok-Some-clause-falls g c =
    let i = c.loop-work.invariant in
    let s = c.loop-work.self in
    let next = subst (λ xs. NextWork (map (λ f. string_bytes f) xs) s.way (Some c.in-Some.work) c.next.new.self)
    c.as_slice.ensures.value c.in-Some.ensures.work in
    let takes = subst (λ o. Takes {A = g.row.A.Denot} (stock s.meter c.next.new.self + work_stock c.in-Some.work)
    (stock c.turn.new.self.meter c.turn.new.self.way) (Ok o)) c.in-Ok-Some.field-0-is c.in-Ok-Some.ensures.takes in
    let t = c.turn.new.self.way in
    omega (
      arith,
      takes,
      next-unmet _ s.way c.next.new.self c.in-Some.work next,
      next-last _ s.way c.next.new.self c.in-Some.work next,
      last_left-most t.entering t.frames.items,
      i.falls,
      i.lasts,
    )

pub returns-in-Err-clause-falls : goal.returns-in-Err-clause-falls
returns-in-Err-clause-falls g c =
    let i = c.loop-work.invariant in
    let s = c.loop-work.self in
    let next = subst (λ xs. NextWork (map (λ f. string_bytes f) xs) s.way (Some c.in-Some.work) c.next.new.self)
    c.as_slice.ensures.value c.in-Some.ensures.work in
    let unmet = next-unmet _ s.way c.next.new.self c.in-Some.work next in
    let lasts = next-last _ s.way c.next.new.self c.in-Some.work next in
    elim c.if-is_last.branch [
      | then-is_last w ↦
          let done = done-none w.end.new.self.way w.end.ensures.done in
          let left : items_left w.end.new.self.meter w.end.new.self.way < items_left c.args.self.now.meter c.args.self.now.way = omega (
            arith,
            ap (λ (m : Meter). m.limit - m.spent) w.end.ensures.meter,
            done.0,
            done.1,
            c.turn.ensures.limit,
            c.turn.ensures.spent,
            unmet,
            lasts,
            i.falls,
            i.lasts,
          ) in
          subst (λ (x : Searcher _). items_left x.meter x.way < items_left c.args.self.now.meter c.args.self.now.way) (sym w.self-is) left
      | else-is_last w ↦
          let t = c.turn.new.self.way in
          let takes = c.in-Err.ensures.takes (sym c.is_last.ensures ∙ w.if-is_last.false) in
          let left : items_left c.turn.new.self.meter t < items_left c.args.self.now.meter c.args.self.now.way = omega (
            arith,
            takes,
            last_left-most t.entering t.frames.items,
            unmet,
            lasts,
            i.falls,
            i.lasts,
          ) in
          subst (λ (x : Searcher _). items_left x.meter x.way < items_left c.args.self.now.meter c.args.self.now.way) (sym w.self-is) left
    ]

pub returns-clause-falls : goal.returns-clause-falls
returns-clause-falls g c =
    let i = c.loop-work.invariant in
    let s = c.loop-work.self in
    let done = done-none c.next.new.self c.in_default.ensures.ends in
    let was = done-none s.way c.in_default.ensures.work in
    omega (arith, done.0, done.1, was.0, was.1, i.falls, i.lasts)

pub returns-in-Err-clause-faults : goal.returns-in-Err-clause-faults
returns-in-Err-clause-faults g c = subst (λ fs. FitsFiles fs c.in-Err.fault)
    (same-files c.args.self.now c.loop-work.self c.loop-work.invariant.files) c.in-Err.ensures.faults
