-- The clauses of a whole walk of a plain pattern, from what it is within its limit.
use Rattle.std.proofs.Common.{◌≡◌, ℕ, true, List, subst}
use Rattle.glob_text.specs.Text.{Text}
use Rattle.glob_tree.specs.Content.{Content}
use Rattle.glob_pattern.specs.declared.options.MatchOptions.{MatchOptions}
use Rattle.glob_walk.specs.Walks.{Item, items, front, paths, IsBeginning, listing, Answers, AreItems, IsWalk}
use Rattle.glob_walk.specs.Goal.{is_readable, goal, taken_goal, ReachesTexts, GivesTexts, IsOrderly}
use Rattle.glob_walk.specs.Laws.{IsPlainWalk, IsSensitiveWalk}
use Rattle.glob_walk.specs.declared.ending.End.{End}
use Rattle.glob_walk.specs.declared.ending.End.TheVariants.{Done, Limit, Memory}
use Rattle.glob.proofs.FoundPaths.{AreItems-same}
use Rattle.glob_walk.proofs.ListingLemmas.Marks.{IsBeginning-cut}
use Rattle.glob_walk.proofs.GoalLemmas.Clauses.{IsBeginning-whole, IsBeginning-within, reaches_goal, gives_goal}
use Rattle.glob_walk.proofs.GoalLemmas.Clauses.{reaches_taken, gives_taken, comes_in_order}

module _ {A : Type 0} (c : Content) (o : MatchOptions) (pattern : Text) (limit spent : ℕ) (answers : Answers A) (is : List Item)
    (are : AreItems answers is) where
  -- the items are a beginning, and where the walk is done they are all
  begins : (end : End) → IsWalk (listing c o pattern) limit end spent answers → IsBeginning is (items (listing c o pattern))
  unfolding IsWalk
  begins Done walk = IsBeginning-whole is (items (listing c o pattern)) (AreItems-same answers is (items (listing c o pattern)) are walk.2)
  begins Limit walk = IsBeginning-within c o pattern limit is
      (AreItems-same answers is (items (front limit (listing c o pattern))) are walk.2)
  begins Memory walk = subst (λ is. IsBeginning is (items (listing c o pattern)))
      (AreItems-same answers walk.0 is walk.1 are) (IsBeginning-cut (listing c o pattern) spent walk.0 walk.2)

  whole : (end : End) → IsWalk (listing c o pattern) limit end spent answers → end ≡ Done → is ≡ items (listing c o pattern)
  unfolding IsWalk
  whole Done walk e = AreItems-same answers is (items (listing c o pattern)) are walk.2
  whole Limit walk e = absurd (cc)
  whole Memory walk e = absurd (cc)

  module _ (p : IsSensitiveWalk c o pattern) where
    pub walk_reaches_goal : (end : End) → IsWalk (listing c o pattern) limit end spent answers
        → ReachesTexts c pattern (goal c o pattern) (end ≡ Done) is
    walk_reaches_goal end walk = reaches_goal c o pattern p is (end ≡ Done) (begins end walk) (whole end walk)

    pub walk_gives_goal : (end : End) → IsWalk (listing c o pattern) limit end spent answers → is_readable c pattern ≡
        true → end ≡ Done → GivesTexts (goal c o pattern) is
    walk_gives_goal end walk readable e = gives_goal c o pattern p is readable (whole end walk e)

  pub walk_finds_taken : IsPlainWalk c pattern → (end : End) → IsWalk (listing c o pattern) limit end spent answers
      → ReachesTexts c pattern (taken_goal c o pattern) (end ≡ Done) is
      × (is_readable c pattern ≡ true → end ≡ Done → GivesTexts (taken_goal c o pattern) is)
      × IsOrderly pattern (paths is)
  walk_finds_taken p end walk = (
    reaches_taken c o pattern p is (end ≡ Done) (begins end walk) (whole end walk),
    (λ readable e. gives_taken c o pattern p is readable (whole end walk e)),
    comes_in_order c o pattern p is (begins end walk),
  )
