-- Going down the remaining names gives the lists of all names, and ignores the start, or what is above it, exactly when
-- all names do.
use Rattle.std.proofs.Common.{◌≡◌, ◌||◌, [], Option, None, Some, length, map, string_bytes}
use Rattle.std.specs.Option.{option_or}
use Rattle.std.specs.Prelude.{if◌then◌else◌}
use Rattle.glob_search.specs.Aims.{outer_of}
use Rattle.glob_text.specs.Text.{Text}
use Rattle.globs.specs.Find.Above.{files_above, files_down, is_ignored_down, is_start_ignored, lists_above, lists_down, outer_decision}
use Rattle.globs.specs.Find.Above.{rule_down, start_rule}
use Rattle.globs.proofs.above.rules_above.Given as goal

abbrev pub invariant-loop-left : goal.invariant-loop-left
invariant-loop-left g l = record {
  kept : g.X.RuleTexts.texts l.texts ≡ g.X.RuleTexts.texts l.initial.texts;
  lists : (known : Text → Option Text) → g.X.RuleTexts.texts l.initial.texts ≡ Some known
      → lists_down known (outer_of l.above.lists.items) (map (λ n. n.now) l.left)
      ≡ lists_above known (map (λ n. n.now) l.place);
  ignored : (known : Text → Option Text) → g.X.RuleTexts.texts l.initial.texts ≡ Some known
      → (l.above.is_ignored || is_ignored_down known (outer_of l.above.lists.items) (map (λ n. n.now) l.left))
      ≡ is_start_ignored known (map (λ n. n.now) l.place);
  files : (known : Text → Option Text) → g.X.RuleTexts.texts l.initial.texts ≡ Some known → l.lead ≡ []
      → files_down known (map string_bytes l.above.files.items) (map (λ n. n.now) l.left)
      ≡ files_above known (map (λ n. n.now) l.place);
  rule : (known : Text → Option Text) → g.X.RuleTexts.texts l.initial.texts ≡ Some known
      → option_or (outer_decision l.above.ignoring)
      (if l.above.is_ignored then None else rule_down known (outer_of l.above.lists.items) (map (λ n. n.now) l.left))
      ≡ start_rule known (map (λ n. n.now) l.place);
}

abbrev pub decreases-loop-left : goal.decreases-loop-left
decreases-loop-left g l = length l.left
