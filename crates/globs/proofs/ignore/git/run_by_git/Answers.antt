use Rattle.std.proofs.Common.{◌∙◌, inl, refl, sym}
use Rattle.std.proofs.lemmas.Bool.{false≢true}
use Rattle.globs.specs.ByGit.{CopiesByGit}
use Rattle.globs.specs.GitNaming.{IgnoresByGit, NamesByGit}
use Rattle.globs.proofs.GitLemmas.{copies-by_git, names-by_git, not_false, not_true}
use Rattle.globs.proofs.ignore.git.run_by_git.Goals as goal

pub returns-in-Err-clause-ignored : goal.returns-in-Err-clause-ignored
unfolding IgnoresByGit NamesByGit CopiesByGit
returns-in-Err-clause-ignored g c =
    (λ _. inl ((c.requires, refl), (c.report_rules.ensures, refl)), λ _. inl ((c.requires, refl), (c.report_rules.ensures, refl)))

pub returns-in-Err-list_of-clause-ignored : goal.returns-in-Err-list_of-clause-ignored
unfolding IgnoresByGit NamesByGit CopiesByGit
returns-in-Err-list_of-clause-ignored g c = (
  λ _. inl ((c.requires, refl), (c.report_rules-in-Err-list_of.ensures, refl)),
  λ _. inl ((c.requires, refl), (c.report_rules-in-Err-list_of.ensures, refl)),
)

pub returns-in_default-clause-ignored : goal.returns-in_default-clause-ignored
unfolding IgnoresByGit NamesByGit CopiesByGit
returns-in_default-clause-ignored g c = (
  λ _. inl ((c.requires, refl), (c.memory_fault.ensures.status, refl)),
  λ _. inl ((c.requires, refl), (c.memory_fault.ensures.status, refl)),
)

pub returns-then-not-settings-clause-ignored : goal.returns-then-not-settings-clause-ignored
unfolding IgnoresByGit
returns-then-not-settings-clause-ignored g c = (
  λ on. absurd (false≢true (sym (not_true _ c.if-not-settings.true) ∙ on)),
  λ _.
      copies-by_git g.W.Write.contents _ (g.F.IgnoreFiles.holds c.args.files.now) c.args.settings.end _ _ _ _ _ _ c.in-Ok.ensures
      c.in-Ok-list_of.list (rw c.as_slice.ensures.value at c.in-Ok-list_of.ensures.rules)
      (λ known place told put. c.copy_around.ensures.copied _ (c.in-Ok-rules_around.ensures known place told put)),
)

pub returns-in-Ok-rule_files-clause-ignored : goal.returns-in-Ok-rule_files-clause-ignored
unfolding IgnoresByGit
returns-in-Ok-rule_files-clause-ignored g c = (
  λ _. names-by_git g.W.Write.contents _ (g.F.IgnoreFiles.holds c.args.files.now) c.args.settings.end _ _ _ _ _ _ c.in-Ok.ensures
      c.in-Ok-list_of.list c.as_slice-in-Ok-rule_files.result.now (rw c.as_slice.ensures.value at c.in-Ok-list_of.ensures.rules)
      (c.as_slice-in-Ok-rule_files.ensures.value ∙ rw c.as_slice-2.ensures.value at c.in-Ok-rule_files.ensures)
      (λ known place told put. c.name_around.ensures.named _ (c.in-Ok-rules_around.ensures known place told put)),
  λ off. absurd (false≢true (sym off ∙ not_false _ c.if-not-settings.false)),
)

pub returns-clause-ignored : goal.returns-clause-ignored
unfolding IgnoresByGit NamesByGit CopiesByGit
returns-clause-ignored g c = (
  λ _. inl ((c.requires, refl), (c.memory_fault-in-Err-rule_files.ensures.status, refl)),
  λ _. inl ((c.requires, refl), (c.memory_fault-in-Err-rule_files.ensures.status, refl)),
)
