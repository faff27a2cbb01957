-- What fulfils a request, and what a usage fault writes.
use Rattle.std.proofs.Common.{◌≡◌, ℕ, ◌<◌, ◌≤◌, List, [], ◌∷◌, Option, length, get_or, map, inl, inr, refl, sym, subst, arith, Bor}
use Rattle.std.specs.Prelude.{codes}
use Rattle.std.proofs.KnownBytes.{Keeps-refl}
use Rattle.glob_console.specs.Lines.{WritesLine}
use Rattle.glob_console.proofs.CallerLemmas.{text_at_fault}
use Rattle.glob_pattern.specs.declared.options.MatchOptions.{MatchOptions}
use Rattle.glob_text.specs.Text.{Text}
use Rattle.globs.specs.Copying.{IsUnread}
use Rattle.globs.specs.ByGit.{CopiesByGit}
use Rattle.globs.specs.Escaping.{WritesEscaped}
use Rattle.globs.specs.Explain.Outcomes.{Answers, ExplainsWord}
use Rattle.globs.specs.Faults.{WritesUsage, usage_words}
use Rattle.globs.specs.Find.Outcomes.{FindsUnignored}
use Rattle.globs.specs.GitNaming.{IgnoresByGit, NamesByGit}
use Rattle.globs.specs.IgnoringPaths.{IgnoresPaths}
use Rattle.globs.specs.Matching.{CopiesMatches}
use Rattle.globs.specs.Naming.{IgnoresByFiles, NamesRules}
use Rattle.globs.specs.Outcomes.{Fulfils, World}
use Rattle.globs.specs.Reading.{Request, Runs, Helps, VersionLine, Refused}
use Rattle.globs.specs.Requests.{IsWrongRequest, request_of}
use Rattle.globs.specs.Unignored.{CopiesUnignored}
use Rattle.globs.specs.declared.command.Command.{Command}
use Rattle.globs.specs.declared.command.Command.TheVariants as command
use Rattle.globs.specs.declared.name.Name as names
use Rattle.globs.specs.declared.name.Name.TheVariants.{Find, Match, Ignore, Explain, Escape}
use Rattle.globs.specs.declared.usage.UsageFault.{UsageFault}
use Rattle.globs.specs.declared.usage.UsageFault.TheVariants.{Word, Memory}

-- the answer for a pattern and a text is the answer to their question
pub answers_two : {W : Type 0} (contents : W → Option (List ℕ)) (o : MatchOptions) (operands : List (Bor (List ℕ)))
    (none other : Bor (List ℕ)) (old new : W) (status : ℕ)
    → 2 ≤ length operands → length operands < 3
    → ExplainsWord contents o (get_or operands 0 none).now (get_or operands 1 other).now old new status
    → Answers contents o (map (λ w. w.now) operands) old new status
unfolding Answers
answers_two contents o [] none other old new status long short explained = absurd (omega (arith, long))
answers_two contents o (p ∷ []) none other old new status long short explained = absurd (omega (arith, long))
answers_two contents o (p ∷ t ∷ []) none other old new status long short explained = explained
answers_two contents o (p ∷ t ∷ x ∷ more) none other old new status long short explained = absurd (omega (arith, short))

module _ {W : Type 0} (contents : W → Option (List ℕ)) (known : W) (status : ℕ) (is : status ≡ 2) where
  answers_refused : (o : MatchOptions) (operands : List (List ℕ)) → Answers contents o operands known known status
  unfolding Answers ExplainsWord
  answers_refused o [] = (is, refl)
  answers_refused o (p ∷ []) = (is, refl)
  answers_refused o (p ∷ t ∷ []) = inl (is, refl)
  answers_refused o (p ∷ t ∷ x ∷ more) = (is, refl)

  -- a fault before anything was done with the output fulfils each request
  pub fulfils_refused : (world : World) (request : Request) → IsUnread world.input → Fulfils contents world request known known status
  unfolding Fulfils FindsUnignored CopiesMatches IgnoresPaths IgnoresByGit CopiesByGit NamesByGit IgnoresByFiles NamesRules
      CopiesUnignored WritesEscaped
  fulfils_refused world (Runs Find o operands) unread = (unread, inl (is, refl))
  fulfils_refused world (Runs Match o operands) unread = inl (unread, (is, refl))
  fulfils_refused world (Runs Ignore o operands) unread = (
    λ _. (λ _. inl (unread, (is, refl)), λ _. inl (unread, (is, refl))),
    λ _. (λ _. inl (unread, (is, refl)), λ _. inl (unread, (is, refl))),
  )
  fulfils_refused world (Runs Explain o operands) unread = (unread, answers_refused o.settings.options operands)
  fulfils_refused world (Runs Escape o operands) unread = (unread, inl (is, Keeps-refl (contents known)))
  fulfils_refused world (Helps name) unread = (unread, text_at_fault _ (contents known) status is)
  fulfils_refused world VersionLine unread = (unread, text_at_fault _ (contents known) status is)
  fulfils_refused world (Refused name why word) unread = (unread, (is, refl))

module _ {E : Type 0} (contents : E → Option (List ℕ)) (prefix : Text) (old new : E) where
  -- nothing is said about anything but a usage fault
  pub no_usage : {A : Type 0} (command : Command A) (request : Request) → request ≡ request_of command →
      WritesUsage contents prefix request old new
  unfolding WritesUsage
  no_usage (command.Run name asked) request is = subst (λ r. WritesUsage contents prefix r old new) (sym is) tt
  no_usage (command.Help name) request is = subst (λ r. WritesUsage contents prefix r old new) (sym is) tt
  no_usage command.Version request is = subst (λ r. WritesUsage contents prefix r old new) (sym is) tt

  -- the line that memory was missing
  memory_usage : (request : Request) → WritesLine prefix (codes "out of memory") (contents old) (contents new) →
      WritesUsage contents prefix request old new
  unfolding WritesUsage
  memory_usage (Runs name o operands) wrote = tt
  memory_usage (Helps name) wrote = tt
  memory_usage VersionLine wrote = tt
  memory_usage (Refused name why word) (inl wrote) = inr wrote
  memory_usage (Refused name why word) (inr wrote) = inr wrote

  -- the line of a fault
  pub line_usage : (name : Option names.Name) (fault : UsageFault) (request : Request) →
      IsWrongRequest request (record { name = name; fault = fault })
      → WritesLine prefix (usage_words (record { name = name; fault = fault })) (contents old) (contents new) →
      WritesUsage contents prefix request old new
  unfolding WritesUsage
  line_usage name (Word why word) request is wrote = subst (λ r. WritesUsage contents prefix r old new) (sym is) wrote
  line_usage name Memory request is wrote = memory_usage request wrote
