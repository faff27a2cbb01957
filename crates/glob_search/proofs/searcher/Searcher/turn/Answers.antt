use Rattle.std.proofs.Common.{◌≡◌, ◌+◌, ◌<◌, ◌≤◌, ap, arith, false, refl, subst, sym, ◌∙◌}
use Rattle.std.proofs.lemmas.Result.{err_from_is_err_and}
use Rattle.glob_search.specs.Kept.{AreOfFiles}
use Rattle.glob_search.specs.Private.Active.{active_lists}
use Rattle.glob_search.specs.declared.active.ActiveRules.{ActiveRules}
use Rattle.glob_search.specs.declared.searcher.Searcher.{Searcher}
use Rattle.glob_search.proofs.ActiveLemmas.{files-take}
use Rattle.glob_search.specs.Private.Engine.{HasWork, Turns, file_names, work_left}
use Rattle.glob_search.specs.States.{is_last}
use Rattle.glob_search.specs.Private.Order.{IsPastWay, IsPastWork}
use Rattle.glob_search.specs.Private.Ways.{search_left}
use Rattle.glob_search.specs.Private.Weights.{Takes, stock, unmet, work_stock}
use Rattle.std.specs.Prelude.{◌++◌}
use Rattle.glob_search.proofs.EngineLemmas.Ending.{last-fits-of, listing-fits, lists-takes, meets-takes, pays-takes, rules-fit}
use Rattle.glob_search.proofs.EngineLemmas.Working.{keeps-at, leaves-keeps, left-same}
use Rattle.glob_search.proofs.searcher.Searcher.turn.Goals.{in-Enter+in_ok-enter-in-Enter, in-Read+in_ok-read_rules-in-Read, in-Leave}
use Rattle.glob_search.proofs.searcher.Searcher.turn.Goals as goal

pub returns-in_err-enter-in-Enter-clause-turns : goal.returns-in_err-enter-in-Enter-clause-turns
returns-in_err-enter-in-Enter-clause-turns g c = λ content a known answers work.
    let p = err_from_is_err_and c.from_residual.result c.from_residual.ensures.1 in
    let s = c.args.self.now in
    subst (λ k. Turns content a known (work_left content a s k ++ search_left content a s) c.from_residual.result
    c.enter.new.self) (sym c.in-Enter.is)
    (rw (p.1, p.2) (c.in_err-enter-in-Enter.ensures.enters content a known answers.told
    (subst (HasWork content a known s) c.in-Enter.is work)))

pub returns-clause-turns : goal.returns-clause-turns
returns-clause-turns g c = λ content a known answers work.
    let s = c.args.self.now in
    elim c.match-work.branch [
      | in-Enter+in_ok-enter-in-Enter w ↦ keeps-at content a known _ _ w.enter.new.self c.match-work.self
          (ap (λ k. work_left content a s k ++ search_left content a s) w.in-Enter.is) w.self-is
          (w.in_ok-enter-in-Enter.ensures.enters content a known answers.told (subst (HasWork content a known s) w.in-Enter.is work))
      | in-Read+in_ok-read_rules-in-Read w ↦ keeps-at content a known _ _ w.read_rules.new.self c.match-work.self
          (ap (λ k. work_left content a s k ++ search_left content a s) w.in-Read.is) w.self-is
          (w.in_ok-read_rules-in-Read.ensures.reads content a known answers.told.1 answers.same answers.fit
          (subst (HasWork content a known s) w.in-Read.is work))
      | in-Leave w ↦ keeps-at content a known _ _ c.match-work.self c.match-work.self
          (ap (λ k. work_left content a s k ++ search_left content a s) w.in-Leave.is) refl
          (leaves-keeps content a known s c.match-work.self w.in-Leave.active (subst (HasWork content a known s) w.in-Leave.is work)
          (left-same s c.match-work.self w.truncate.new.self w.self-is) (ap (λ x. x.active.files.items) w.self-is
          ∙ w.truncate.ensures.items))
    ]

pub returns-in_err-enter-in-Enter-clause-later : goal.returns-in_err-enter-in-Enter-clause-later
returns-in_err-enter-in-Enter-clause-later g c = λ past work.
    let p = err_from_is_err_and c.from_residual.result c.from_residual.ensures.1 in
    let s = c.args.self.now in
    rw (p.1, p.2) (c.in_err-enter-in-Enter.ensures.later past
    (subst (λ k. IsPastWork s.beginnings past k s.way) c.in-Enter.is work))

pub returns-clause-later : goal.returns-clause-later
returns-clause-later g c = λ past work.
    let s = c.args.self.now in
    elim c.match-work.branch [
      | in-Enter+in_ok-enter-in-Enter w ↦ subst (λ t. IsPastWay s.beginnings past t.way) (sym w.self-is)
          (w.in_ok-enter-in-Enter.ensures.later past (subst (λ k. IsPastWork s.beginnings past k s.way) w.in-Enter.is work))
      | in-Read+in_ok-read_rules-in-Read w ↦ subst (λ t. IsPastWay s.beginnings past t.way) (sym w.self-is)
          (subst (IsPastWay s.beginnings past) (sym w.in_ok-read_rules-in-Read.ensures.way)
          (subst (λ k. IsPastWork s.beginnings past k s.way) w.in-Read.is work))
      | in-Leave w ↦ subst (IsPastWay s.beginnings past) (sym (ap (λ x. x.way) w.self-is))
          (subst (λ k. IsPastWork s.beginnings past k s.way) w.in-Leave.is work)
    ]

pub returns-in_err-enter-in-Enter-clause-takes : goal.returns-in_err-enter-in-Enter-clause-takes
returns-in_err-enter-in-Enter-clause-takes g c =
    let p = err_from_is_err_and c.from_residual.result c.from_residual.ensures.1 in
    let s = c.args.self.now in
    let t = c.enter.new.self in
    let f = c.in_err-enter-in-Enter.field-0.0 in
    rw (p.1, p.2) (subst (λ k. is_last f ≡ false → stock t.meter t.way < stock s.meter s.way + work_stock k) (sym c.in-Enter.is)
    (λ goes. omega (
      arith,
      lists-takes s.meter t.meter s.way t.way c.enter.ensures.limit c.enter.ensures.spent f
          c.in_err-enter-in-Enter.ensures.fails c.in_err-enter-in-Enter.ensures.stays goes,
    )))

pub returns-in_err-read_rules-in-Read-clause-takes : goal.returns-in_err-read_rules-in-Read-clause-takes
returns-in_err-read_rules-in-Read-clause-takes g c =
    let p = err_from_is_err_and c.from_residual-in_err-read_rules-in-Read.result c.from_residual-in_err-read_rules-in-Read.ensures.1 in
    let s = c.args.self.now in
    let t = c.read_rules.new.self in
    let f = c.in_err-read_rules-in-Read.field-0.0 in
    rw (p.1, p.2) (subst (λ k. is_last f ≡ false → stock t.meter t.way < stock s.meter s.way + work_stock k) (sym c.in-Read.is)
    (λ goes. omega (
      arith,
      pays-takes s.meter t.meter s.way t.way c.read_rules.ensures.limit c.read_rules.ensures.spent f
          (λ _. c.read_rules.ensures.way) c.in_err-read_rules-in-Read.ensures.paid goes,
    )))

pub returns-in-Meet-clause-takes : goal.returns-in-Meet-clause-takes
returns-in-Meet-clause-takes g c =
    let s = c.args.self.now in
    let t = c.meet.new.self in
    subst (λ k. Takes (stock s.meter s.way + work_stock k) (stock t.meter t.way) c.meet.result) (sym c.in-Meet.is)
    (meets-takes s.meter t.meter s.way t.way c.meet.ensures.limit c.meet.ensures.spent c.meet.result c.meet.ensures.frames
    c.meet.ensures.last)

pub returns-clause-takes : goal.returns-clause-takes
returns-clause-takes g c =
    let s = c.args.self.now in
    elim c.match-work.branch [
      | in-Enter+in_ok-enter-in-Enter w ↦
          let less : stock w.enter.new.self.meter w.enter.new.self.way ≤ stock s.meter s.way + work_stock c.args.work =
          omega (arith, w.in_ok-enter-in-Enter.ensures.stock) in
          subst (λ t. stock t.meter t.way ≤ stock s.meter s.way + work_stock c.args.work) (sym w.self-is) less
      | in-Read+in_ok-read_rules-in-Read w ↦
          let same : unmet w.read_rules.new.self.way ≡ unmet s.way = ap (λ x. unmet x) w.read_rules.ensures.way in
          let less : stock w.read_rules.new.self.meter w.read_rules.new.self.way ≤ stock s.meter s.way + work_stock c.args.work =
          omega (arith, same, w.read_rules.ensures.limit, w.read_rules.ensures.spent) in
          subst (λ t. stock t.meter t.way ≤ stock s.meter s.way + work_stock c.args.work) (sym w.self-is) less
      | in-Leave w ↦
          let less : stock s.meter s.way ≤ stock s.meter s.way + work_stock c.args.work = omega arith in
          subst (λ t. stock t.meter t.way ≤ stock s.meter s.way + work_stock c.args.work) (sym w.self-is) less
    ]

pub returns-in_err-enter-in-Enter-clause-faults : goal.returns-in_err-enter-in-Enter-clause-faults
returns-in_err-enter-in-Enter-clause-faults g c =
    let p = err_from_is_err_and c.from_residual.result c.from_residual.ensures.1 in
    rw (p.1, p.2) (listing-fits (file_names c.args.self.now) _ _ c.in_err-enter-in-Enter.field-0.0 c.in_err-enter-in-Enter.ensures.fails)

pub returns-in_err-read_rules-in-Read-clause-faults : goal.returns-in_err-read_rules-in-Read-clause-faults
returns-in_err-read_rules-in-Read-clause-faults g c =
    let p = err_from_is_err_and c.from_residual-in_err-read_rules-in-Read.result c.from_residual-in_err-read_rules-in-Read.ensures.1 in
    rw (p.1, p.2) (rules-fit (file_names c.args.self.now) c.in_err-read_rules-in-Read.field-0.0 c.in_err-read_rules-in-Read.ensures.fails)

pub returns-in-Meet-clause-faults : goal.returns-in-Meet-clause-faults
returns-in-Meet-clause-faults g c = last-fits-of (file_names c.args.self.now) c.meet.result c.meet.ensures.last

pub returns-clause-read : goal.returns-clause-read
returns-clause-read g c = λ known same were.
    let s = c.args.self.now in
    let names = file_names s in
    elim c.match-work.branch [
      | in-Enter+in_ok-enter-in-Enter w ↦ subst (λ (t : Searcher _). AreOfFiles known names (active_lists t.active.files.items))
          (sym w.self-is) (subst (λ (h : ActiveRules _). AreOfFiles known names (active_lists h.files.items))
          (sym w.in_ok-enter-in-Enter.ensures.active) were)
      | in-Read+in_ok-read_rules-in-Read w ↦ subst (λ (t : Searcher _). AreOfFiles known names (active_lists t.active.files.items))
          (sym w.self-is) (w.in_ok-read_rules-in-Read.ensures.read known same were)
      | in-Leave w ↦ subst (λ (t : Searcher _). AreOfFiles known names (active_lists t.active.files.items)) (sym w.self-is)
          (files-take known names s.active.files.items w.truncate.new.self.items w.in-Leave.active w.truncate.ensures.items were)
    ]
