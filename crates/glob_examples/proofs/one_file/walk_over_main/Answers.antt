use Rattle.std.proofs.Common.{◌≡◌, ◌≢◌, ℕ, [], ◌∷◌, List, None, Some, codes, refl, sym, subst, ◌∙◌, arith}
use Rattle.glob.specs.Answers.{IsTold}
use Rattle.glob.specs.Components.{walk_fault}
use Rattle.glob.specs.Walks.{listing, Mark, Work, Give, Found, Answers, AreItems, IsWalk, RefusesWith}
use Rattle.glob.specs.Matching.Options.{new_options}
use Rattle.glob.specs.Types.{End, PatternRefusal}
use Rattle.glob.specs.Variants.End.{Done, Limit}
use Rattle.glob.specs.Variants.End as end
use Rattle.glob.specs.Variants.PatternRefusal.{Syntax, Memory}
use Rattle.glob.proofs.Computing.{computed}
use Rattle.glob.proofs.WalkLemmas.{done_walk, limited_walk}
use Rattle.glob_examples.specs.OneFile.{one_file}
use Rattle.glob_walk.proofs.WalkLemmas.Reading.{IfErr-from_known}
use Rattle.glob_examples.proofs.one_file.walk_over_main.Goals as goal

-- the content is well formed
told : IsTold (Some (one_file (codes "main.rs"))) (one_file (codes "main.rs"))
unfolding computed
told = (refl, refl)

-- the start is looked up and listed, and has one entry, which is given
abbrev marks : List Mark
marks = Work (codes ".") ∷ Work (codes ".") ∷ Work (codes ".") ∷ Give (Found (codes "main.rs")) ∷ []

listed : listing (one_file (codes "main.rs")) new_options (codes "*.rs") ≡ marks
unfolding computed
listed = refl

fault : walk_fault (codes "*.rs") ≡ None
unfolding computed
fault = refl

-- what a walk with that listing gives within 3 units
record IsDoneOrOut {A : Type 0} (at_end : End) (spent : ℕ) (answers : Answers A) : Type 0 where
  within : at_end ≢ Limit
  found : at_end ≡ Done → AreItems answers (Found (codes "main.rs") ∷ [])
  units : at_end ≡ Done → spent ≡ 3

says : {A : Type 0} (at_end : End) (spent : ℕ) (answers : Answers A) → IsWalk marks 3 at_end spent answers →
    IsDoneOrOut at_end spent answers
says end.Done spent answers walk =
    let done = done_walk answers marks 3 spent walk in record {
      within = λ e. absurd (cc);
      found = λ _. done.2;
      units = λ _. done.1;
    }
says end.Limit spent answers walk = absurd (omega (arith, (limited_walk answers marks 3 spent walk).0))
says end.Memory spent answers walk = record {
  within = λ e. absurd (cc);
  found = λ e. absurd (cc);
  units = λ e. absurd (cc);
}

walked : (c : goal.In_ok-walk) → IsDoneOrOut c.in_ok-walk.walk.end c.in_ok-walk.walk.spent c.in_ok-walk.walk.items.items
walked c =
    let knows : IsTold (Some (one_file c.new-tree.result.name.now)) (one_file (codes "main.rs")) = rw (c.new-tree.ensures) told in
    says _ _ _ (rw (c.new.ensures, listed) at (c.in_ok-walk.ensures.walk (one_file (codes "main.rs")) knows))

pub returns-clause-within : goal.returns-clause-within
returns-clause-within c = (walked c).within

pub returns-clause-found : goal.returns-clause-found
returns-clause-found c = (walked c).found

pub returns-clause-spent : goal.returns-clause-spent
returns-clause-spent c = (walked c).units

-- the pattern has no fault
only_memory : (refusal : PatternRefusal) → RefusesWith (walk_fault (codes "*.rs")) refusal → refusal ≡ Memory
only_memory (Syntax e) refuses = let none = sym fault ∙ refuses in absurd (cc)
only_memory Memory refuses = refl

pub returns-in_err-walk-clause-refused : goal.returns-in_err-walk-clause-refused
returns-in_err-walk-clause-refused c =
    IfErr-from_known _ _ _
    (λ refusal is. only_memory refusal (subst (RefusesWith (walk_fault (codes "*.rs"))) (sym is) c.in_err-walk.ensures.refused))
    c.from_residual.ensures.1
