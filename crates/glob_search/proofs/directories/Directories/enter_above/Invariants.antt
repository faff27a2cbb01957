use Rattle.std.proofs.Common.{◌≡◌, ◌++◌, Option, Some, length}
use Rattle.std.specs.Prelude.{IsTrue}
use Rattle.std.specs.List.{list_all}
use Rattle.glob_text.specs.Pieces.{pieces}
use Rattle.glob_text.specs.Text.{Text}
use Rattle.glob_tree.specs.Content.{Key}
use Rattle.glob_tree.specs.Paths.{is_proper}
use Rattle.glob_search.specs.Searching.{Aim}
use Rattle.glob_search.specs.Private.Entering.{IsAt, IsRead}
use Rattle.glob_search.proofs.directories.Directories.enter_above.Given as goal
use denote.Text.{Utf8}
use denote.Shadow.{shadow}

-- the path leads on from the last directory by the rest
abbrev pub invariant-loop-name : goal.invariant-loop-name
invariant-loop-name g l = shadow (Utf8 l.rest) × record {
  files : l.self.rule_files ≡ l.fn.self.rule_files;
  first : l.self.held.active.first ≡ l.fn.self.held.active.first;
  outer : l.self.held.active.last ≡ l.fn.self.held.active.last;
  texts : g.R.RuleTexts.texts l.texts ≡ g.R.RuleTexts.texts l.fn.texts;
  at : (a : Aim) (known : Text → Option Text) → g.R.RuleTexts.texts l.fn.texts ≡ Some known
      → IsTrue (list_all is_proper (pieces l.path)) → IsRead a known l.fn.self
      → (directory : Key) × IsAt a known l.self (Some directory) × (pieces l.path ≡ directory ++ pieces l.rest);
}

abbrev pub decreases-loop-name : goal.decreases-loop-name
decreases-loop-name g l = length l.rest
