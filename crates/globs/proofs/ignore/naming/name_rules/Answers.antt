use Rattle.std.proofs.Common.{◌∙◌, inl, refl}
use Rattle.globs.specs.Naming.{NamesRules}
use Rattle.globs.proofs.NamingLemmas.{names_rules}
use Rattle.globs.proofs.ignore.naming.name_rules.Goals as goal

pub returns-in-Err-clause-named : goal.returns-in-Err-clause-named
unfolding NamesRules
returns-in-Err-clause-named g c = inl ((c.requires, refl), (c.report_rules.ensures, refl))

pub returns-in-Err-list_of-clause-named : goal.returns-in-Err-list_of-clause-named
unfolding NamesRules
returns-in-Err-list_of-clause-named g c = inl ((c.requires, refl), (c.report_rules-in-Err-list_of.ensures, refl))

pub returns-in-Ok-rule_files-clause-named : goal.returns-in-Ok-rule_files-clause-named
returns-in-Ok-rule_files-clause-named g c =
    names_rules g.W.Write.contents (g.F.IgnoreFiles.holds c.args.files.now) c.args.end _ _ _ _ _ _ c.in-Ok.ensures
    c.as_slice-in-Ok-rule_files.result.now c.in-Ok-list_of.list (rw c.as_slice.ensures.value at c.in-Ok-list_of.ensures.rules)
    (c.as_slice-in-Ok-rule_files.ensures.value ∙ rw c.as_slice-2.ensures.value at c.in-Ok-rule_files.ensures) c.write_named.ensures.named

pub returns-clause-named : goal.returns-clause-named
unfolding NamesRules
returns-clause-named g c = inl ((c.requires, refl), (c.memory_fault.ensures.status, refl))
