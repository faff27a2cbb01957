use Rattle.std.proofs.lemmas.Result.{err_from_is_err_and}
use Rattle.std.proofs.Common.{ap}
use Rattle.glob_search.specs.Private.Engine.{opening_names}
use Rattle.glob_search.proofs.EngineLemmas.Past.{enters-past, passes-past}
use Rattle.glob_search.proofs.EngineLemmas.Stepping.{enters, shut-gives}
use Rattle.glob_search.proofs.searcher.Searcher.enter.Goals as goal

pub returns-in_err-entries-clause-enters : goal.returns-in_err-entries-clause-enters
returns-in_err-entries-clause-enters g c = λ content a known told (ready, free, opening).
    let p = err_from_is_err_and c.from_residual.result c.from_residual.ensures.1 in
    let living = opening.directory.alive in
    let fits = c.source_of-source.ensures a (opening_names c.args.opening) ready.for.beginnings living in
    rw (p.1, p.2) (shut-gives content a known c.args.self.now c.args.opening ready free opening c.entries.new.self
    c.entries.ensures.same c.source_of-source.result c.in_err-entries.field-0.0
    (c.in_err-entries.ensures.entries content a (opening_names c.args.opening) told opening.directory.there
    opening.directory.path ready.for.beginnings living fits))

pub returns-clause-enters : goal.returns-clause-enters
returns-clause-enters g c = λ content a known told (ready, free, opening).
    let names = opening_names c.args.opening in
    let living = opening.directory.alive in
    let fits = c.source_of-source.ensures a names ready.for.beginnings living in
    enters content a known c.args.self.now c.args.opening ready free opening c.entries.new.self c.step_into.new.self
    c.entries.ensures.same c.step_into.ensures.same
    c.in_ok-entries.entries c.source_of-source.result
    (c.in_ok-entries.ensures.entries content a names told opening.directory.there opening.directory.path ready.for.beginnings living fits)
    c.step_into.ensures.none c.step_into.result c.step_into.ensures.some c.step_into.ensures.last

pub returns-in_err-entries-clause-later : goal.returns-in_err-entries-clause-later
returns-in_err-entries-clause-later g c = λ past work.
    let p = err_from_is_err_and c.from_residual.result c.from_residual.ensures.1 in
    rw (p.1, p.2) (λ goes. passes-past c.args.self.now.beginnings past c.args.opening c.args.self.now.way c.entries.new.self.way work
    (ap (λ s. s.way) c.entries.ensures.same))

pub returns-clause-later : goal.returns-clause-later
returns-clause-later g c = λ past work.
    enters-past c.args.self.now.beginnings past c.args.opening c.source_of-source.result c.in_ok-entries.entries c.args.self.now
    c.entries.new.self c.step_into.new.self c.step_into.result
    (ap (λ s. s.way) c.entries.ensures.same) work c.in_ok-entries.ensures.falls c.step_into.ensures.none
    c.step_into.ensures.some c.step_into.ensures.last
