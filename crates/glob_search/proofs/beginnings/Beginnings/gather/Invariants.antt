use Rattle.std.proofs.Common.{◌≡◌, List, vec_len}
use Rattle.glob_text.specs.Text.{Text}
use Rattle.glob_pattern.specs.declared.options.MatchOptions.{MatchOptions}
use Rattle.glob_search.specs.Private.Nodes.{AreBeginnings}
use Rattle.glob_search.proofs.beginnings.Beginnings.gather.Given as goal

abbrev pub invariant-loop-number : goal.invariant-loop-number
invariant-loop-number g l = record {
  len : vec_len l.self.nodes ≡ vec_len l.initial.self.nodes;
  begins : (o : MatchOptions) (patterns : List Text) → AreBeginnings o patterns l.initial.self → AreBeginnings o patterns l.self;
}
