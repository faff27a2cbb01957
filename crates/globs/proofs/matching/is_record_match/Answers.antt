use Rattle.globs.proofs.FilterLemmas.{no_record, record_matches}
use Rattle.globs.proofs.matching.is_record_match.Goals as goal

pub returns-in-Ok : goal.returns-in-Ok
returns-in-Ok g c =
    record_matches c.is_any_match.result c.args.patterns.now c.in-Ok.text.now c.args.bytes.now c.in-Ok.ensures.cases.0
    c.in-Ok.ensures.cases.1 c.is_any_match.ensures

pub returns-in-Err : goal.returns-in-Err
returns-in-Err g c = no_record c.args.patterns.now c.args.bytes.now c.in-Err.ensures.cases.0
