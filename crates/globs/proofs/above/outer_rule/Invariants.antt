-- What the lists from here on say comes before what the earlier ones say.
use Rattle.std.proofs.Common.{◌≡◌, drop}
use Rattle.std.specs.Option.{option_or}
use Rattle.glob_search.specs.Aims.{outer_of}
use Rattle.globs.specs.Find.Above.{outer_decision, rule_from}
use Rattle.globs.proofs.above.outer_rule.Given as goal

abbrev pub invariant-loop-index : goal.invariant-loop-index
invariant-loop-index g l =
    option_or (rule_from l.index (outer_of (drop l.index l.lists)) l.name) (outer_decision l.last)
    ≡ rule_from 0 (outer_of l.lists) l.name
