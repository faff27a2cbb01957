use Rattle.std.proofs.Common.{◌≡◌, Option, length}
use Rattle.glob_text.specs.Text.{Text}
use Rattle.glob_tree.specs.Content.{Key}
use Rattle.glob_search.specs.Searching.{Aim}
use Rattle.glob_search.specs.Private.Entering.{IsAt}
use Rattle.glob_search.proofs.directories.Directories.leave.Given as goal

-- what is still entered is as it was
abbrev pub invariant-loop-last : goal.invariant-loop-last
invariant-loop-last g l = record {
  files : l.self.rule_files ≡ l.fn.self.rule_files;
  first : l.self.held.active.first ≡ l.fn.self.held.active.first;
  outer : l.self.held.active.last ≡ l.fn.self.held.active.last;
  at : (a : Aim) (known : Text → Option Text) (last : Option Key) → IsAt a known l.fn.self last
      → (now : Option Key) × IsAt a known l.self now;
}

abbrev pub decreases-loop-last : goal.decreases-loop-last
decreases-loop-last g l = length l.self.entered.items
