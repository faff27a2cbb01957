use Rattle.glob_lines.proofs.LineLemmas.MatchingLines.{IfOk-computed}
use Rattle.glob_lines.proofs.matching.MatchingSelection.selects.Goals as goal

pub returns : goal.returns
returns g c = IfOk-computed c.record_matches.result c.args.self.now.options c.args.self.now.pattern.now
    c.args.bytes.now c.record_matches.ensures
