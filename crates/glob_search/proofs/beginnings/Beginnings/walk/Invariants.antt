use Rattle.std.proofs.Common.{◌≡◌, ◌<◌, ℕ, List, map, vec_len}
use Rattle.std.specs.List.{All}
use Rattle.std.specs.Str.{IsUtf8, chars}
use Rattle.glob_text.specs.Text.{Text}
use Rattle.glob_pattern.specs.Grammar.Units.{IsAccepted}
use Rattle.glob_search.specs.Private.NodeGrowth.{GrownTo, walked}
use Rattle.glob_search.specs.Private.Nodes.{IsTree, key_of}
use Rattle.glob_search.proofs.beginnings.Beginnings.walk.Given as goal

abbrev pub invariant-loop-component : goal.invariant-loop-component
invariant-loop-component g l = record {
  options : l.self.options ≡ l.initial.self.options;
  within : l.at < vec_len l.self.nodes;
  utf8 : All IsUtf8 (map (λ t. t.now) l.yielded);
  accepted : All (λ t. IsAccepted (chars t)) (map (λ t. t.now) l.yielded);
  walked_to : (front : ℕ → List Text) → IsTree l.initial.self.options l.initial.self.nodes.items front
      → GrownTo l.initial.self.options l.initial.self.nodes.items l.self.nodes.items front
      (walked (map (key_of l.initial.self.options) (map (λ t. t.now) l.yielded))) l.at;
}
