use Rattle.std.proofs.Common.{subst, sym}
use Rattle.glob_console.proofs.WritingLemmas.{OnErr-from}
use Rattle.globs.specs.Find.Kinds.{kept}
use Rattle.globs.specs.Find.Writing.{WritesGifts}
use Rattle.globs.proofs.find.searching.run_search.Goals as goal

pub returns-clause-written : goal.returns-clause-written
returns-clause-written g c keeps sieve c' a known told is fit all begun =
    let held = g.W.Write.contents in
    subst (WritesGifts c.args.lead.now c.args.end (kept keeps all) (held c.args.output.now)
    (held c.write_found.new.output)) (sym c.status.ensures.status)
    (c.in_ok-findings.ensures.written keeps sieve c' a known told is fit all begun)

pub returns-in_err-findings-clause-some : goal.returns-in_err-findings-clause-some
returns-in_err-findings-clause-some g c keeps sieve c' a known told is fit all begun =
    OnErr-from _ (c.in_err-findings.ensures.some keeps sieve c' a known told is fit all begun)
