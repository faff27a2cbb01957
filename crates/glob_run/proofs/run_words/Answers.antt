use Rattle.std.proofs.Common.{sym, refl}
use Rattle.glob_run.specs.Outcomes.{Fulfils}
use Rattle.glob_run.proofs.run_words.Goals as goal

pub returns-in_default-clause-request : goal.returns-in_default-clause-request
unfolding Fulfils
returns-in_default-clause-request g c = rw (sym c.parse.ensures, c.in_default.is) (c.fault.ensures.status, refl)

pub returns-in-Match-clause-request : goal.returns-in-Match-clause-request
unfolding Fulfils
returns-in-Match-clause-request g c = rw (sym c.parse.ensures, c.in-Some.is, c.in-Match.is)
    (c.run_match.ensures.refused, c.run_match.ensures.lines)

pub returns-in-Escape-clause-request : goal.returns-in-Escape-clause-request
unfolding Fulfils
returns-in-Escape-clause-request g c = rw (sym c.parse.ensures, c.in-Some.is, c.in-Escape.is) c.run_escape.ensures.escaped

pub returns-in-Find-clause-request : goal.returns-in-Find-clause-request
unfolding Fulfils
returns-in-Find-clause-request g c =
    rw (sym c.parse.ensures, c.in-Some.is, c.in-Find.is) (
      c.run_find.ensures.refused,
      λ content told.
          (c.run_find.ensures.status content told, c.run_find.ensures.written content told),
    )
