use Rattle.std.proofs.Common.{◌≡◌, map, take, Option, Some, string_bytes}
use Rattle.glob_text.specs.Text.{Text}
use Rattle.glob_search.specs.Private.Reading.{HasRead}
use Rattle.glob_search.proofs.held.HeldRules.read.Given as goal

-- the files so far are read
abbrev pub invariant-loop-name : goal.invariant-loop-name
invariant-loop-name g l = record {
  first : l.self.active.first ≡ l.fn.self.active.first;
  last : l.self.active.last ≡ l.fn.self.active.last;
  texts : g.R.RuleTexts.texts l.texts ≡ g.R.RuleTexts.texts l.fn.texts;
  reads : (known : Text → Option Text) → g.R.RuleTexts.texts l.fn.texts ≡ Some known
      → HasRead known l.directory (map (λ n. string_bytes n) (take l.name-index l.names)) l.fn.self l.self;
}
