-- The clauses of a whole walk, from the laws of a plain walk and the items that the walk gave.
use Rattle.std.proofs.Common.{◌≡◌, ℕ, true, List, [], ◌++◌, sym, ap, subst, ◌∙◌}
use Rattle.std.specs.Prelude.{IsTrue, Option}
use Rattle.std.specs.Str.{IsUtf8}
use Rattle.std.proofs.lemmas.List.{append-nil}
use Rattle.glob_text.specs.Text.{Text}
use Rattle.glob_tree.specs.Content.{Content}
use Rattle.glob_tree.specs.Answers.{IsTold}
use Rattle.glob_walk.specs.Walks.{Item, items, front, paths, IsBeginning, listing}
use Rattle.glob_walk.specs.Goal.{is_plain, is_readable, taken_goal, ReachesTexts, GivesTexts, IsOrderly, goal}
use Rattle.glob_walk.specs.Laws.{IsPlainWalk, IsSensitiveWalk}
use Rattle.glob_pattern.specs.declared.options.MatchOptions.{MatchOptions}
use Rattle.glob_walk.proofs.ListingLemmas.Marks.{IsBeginning-front}
use Rattle.glob_walk.proofs.GoalLemmas.ReachedGoals.{taken_walk_reaches, taken_walk_gives, plain_walk_reaches, plain_walk_gives}
use Rattle.glob_walk.proofs.GoalLemmas.OnceInOrder.{plain_walk_orderly}

-- the premises of a plain walk, for a tree with known content
pub plain_walk : (known : Option Content) (c : Content) (o : MatchOptions) (pattern : Text) → IsTold known c
    → IsUtf8 pattern → IsTrue (is_plain pattern) → IsTrue o.case_sensitive → IsSensitiveWalk c o pattern
plain_walk known c o pattern tells utf8 plain case = record {
  plain = record {
    content = tells.1;
    text = utf8;
    plain =
        plain;
  };
  case = case;
}

-- all the items are a prefix of themselves, and the items within a limit are a prefix of all
pub IsBeginning-whole : (given all : List Item) → given ≡ all → IsBeginning given all
IsBeginning-whole given all whole = ([], sym (append-nil all) ∙ ap (λ is. is ++ []) (sym whole))

pub IsBeginning-within : (c : Content) (o : MatchOptions) (pattern : Text) (limit : ℕ) (given : List Item)
    → given ≡ items (front limit (listing c o pattern))
    → IsBeginning given (items (listing c o pattern))
IsBeginning-within c o pattern limit given within =
    subst (λ is. IsBeginning is (items (listing c o pattern))) (sym within) (IsBeginning-front limit (listing c o pattern))

module _ (c : Content) (o : MatchOptions) (pattern : Text) (p : IsSensitiveWalk c o pattern) (given : List Item) where
  -- each path is a goal; and if all items were given, each goal is a path or is hidden
  pub reaches_goal : (IsDone : Type 0) → IsBeginning given (items (listing c o pattern)) → (IsDone → given ≡ items
      (listing c o pattern)) → ReachesTexts c pattern (goal c o pattern) IsDone given
  reaches_goal IsDone begins done = plain_walk_reaches c o pattern p given begins IsDone done

  -- over a readable content, if all items were given, no item is an error, and the paths are exactly the goal
  pub gives_goal : is_readable c pattern ≡ true → given ≡ items (listing c o pattern) → GivesTexts (goal c o pattern) given
  gives_goal readable whole = subst (GivesTexts (goal c o pattern)) (sym whole) (plain_walk_gives c o pattern p readable)

-- the same for the keys whose names the components take, case-sensitively or not
module _ (c : Content) (o : MatchOptions) (pattern : Text) (p : IsPlainWalk c pattern) (given : List Item) where
  pub reaches_taken : (IsDone : Type 0) → IsBeginning given (items (listing c o pattern)) → (IsDone → given ≡ items (listing c o pattern))
      → ReachesTexts c pattern (taken_goal c o pattern) IsDone given
  reaches_taken IsDone begins done = taken_walk_reaches c o pattern p given begins IsDone done

  pub gives_taken : is_readable c pattern ≡ true → given ≡ items (listing c o pattern) → GivesTexts (taken_goal c o pattern) given
  gives_taken readable whole = subst (GivesTexts (taken_goal c o pattern)) (sym whole) (taken_walk_gives c o pattern p readable)

  -- the paths come once and in order
  pub comes_in_order : IsBeginning given (items (listing c o pattern)) → IsOrderly pattern (paths given)
  comes_in_order begins = plain_walk_orderly c o pattern p given begins
