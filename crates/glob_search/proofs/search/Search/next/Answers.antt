use Rattle.std.proofs.Common.{◌≡◌, List, Option, Some, subst}
use Rattle.glob_text.specs.Text.{Text}
use Rattle.glob_tree.specs.Answers.{IsTold}
use Rattle.glob_tree.specs.Content.{Content}
use Rattle.glob_search.specs.Aims.{AreTextsOf}
use Rattle.glob_search.specs.Kept.{AreOfFiles}
use Rattle.glob_search.specs.Searching.{Aim}
use Rattle.glob_search.specs.States.{GivesNext, HasGiven, SearchState}
use Rattle.glob_search.specs.Visiting.{Gift}
use Rattle.glob_search.specs.Private.Active.{active_lists}
use Rattle.glob_search.specs.Private.Finding.{Find, state_of}
use Rattle.glob_search.proofs.search.Search.next.Goals as goal

pub returns-clause-gives : goal.returns-clause-gives
returns-clause-gives g c =
    subst (λ (s : SearchState (Find _)). (content : Content) (a : Aim) (known : Text → Option Text)
    → IsTold (g.T.Tree.tells c.args.tree.now) content → g.R.RuleTexts.texts c.args.texts.now ≡ Some known
    → AreTextsOf content a s.files known → (all given : List Gift) → HasGiven all content a known given s
    → GivesNext all content a known given c.next.result (state_of c.next.new.self)) c.self.view_is
    (λ content a known told same fit. c.next.ensures.gives content a known (record { told = told; same = same; fit = fit }))

pub returns-clause-read : goal.returns-clause-read
returns-clause-read g c =
    subst (λ (s : SearchState (Find _)). (known : Text → Option Text) → g.R.RuleTexts.texts c.args.texts.now ≡ Some known
    → AreOfFiles known s.files s.rules.files → AreOfFiles known s.files (active_lists c.next.new.self.active.files.items))
    c.self.view_is c.next.ensures.read
