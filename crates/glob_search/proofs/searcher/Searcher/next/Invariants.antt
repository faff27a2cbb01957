use Rattle.std.proofs.Common.{◌≡◌, ◌+◌, ◌≤◌, Option, Some}
use Rattle.glob_text.specs.Text.{Text}
use Rattle.glob_tree.specs.Content.{Content, Key}
use Rattle.glob_search.specs.Kept.{AreOfFiles}
use Rattle.glob_search.specs.Searching.{Aim}
use Rattle.glob_search.specs.Private.Active.{AreSameLists, active_lists}
use Rattle.glob_search.specs.Private.Engine.{AreAnswers, IsSound, Keeps, file_names}
use Rattle.glob_search.specs.Private.Order.{IsPastSearch}
use Rattle.glob_search.specs.Private.Ways.{IsDone, search_left}
use Rattle.glob_search.specs.Private.Weights.{last_left, stock, weight}
use Rattle.glob_search.proofs.searcher.Searcher.next.Given as goal

abbrev pub invariant-loop-work : goal.invariant-loop-work
invariant-loop-work g l = record {
  limit : l.self.meter.limit ≡ l.initial.self.meter.limit;
  depth : l.self.depth ≡ l.initial.self.depth;
  spent : l.initial.self.meter.spent ≤ l.self.meter.spent;
  files : l.self.rule_files ≡ l.initial.self.rule_files;
  beginnings : l.self.beginnings ≡ l.initial.self.beginnings;
  lists : AreSameLists l.initial.self.active l.self.active;
  read : (known : Text → Option Text) → g.R.RuleTexts.texts l.initial.texts ≡ Some known
      → AreOfFiles known (file_names l.initial.self) (active_lists l.initial.self.active.files.items)
      → AreOfFiles known (file_names l.initial.self) (active_lists l.self.active.files.items);
  kinds : l.self.kinds ≡ l.initial.self.kinds;
  asked : g.T.Tree.asks l.tree + l.initial.self.meter.spent ≤ g.T.Tree.asks l.initial.tree + l.self.meter.spent;
  stays : IsDone l.initial.self.way → IsDone l.self.way;
  content : g.T.Tree.tells l.tree ≡ g.T.Tree.tells l.initial.tree;
  texts : g.R.RuleTexts.texts l.texts ≡ g.R.RuleTexts.texts l.initial.texts;
  goes : (c : Content) (a : Aim) (known : Text → Option Text) → AreAnswers (g.T.Tree.tells l.initial.tree)
      (g.R.RuleTexts.texts l.initial.texts) (file_names l.initial.self) c a known
      → IsSound c a known l.initial.self → Keeps c a known (search_left c a l.initial.self) l.self;
  ascends : (past : Key) → IsPastSearch past l.initial.self → IsPastSearch past l.self;
  falls : stock l.self.meter l.self.way ≤ stock l.initial.self.meter l.initial.self.way;
  lasts : last_left l.self.way.entering l.self.way.frames.items
      ≤ last_left l.initial.self.way.entering l.initial.self.way.frames.items;
}

abbrev pub decreases-loop-work : goal.decreases-loop-work
decreases-loop-work g l = weight l.self.meter l.self.way
