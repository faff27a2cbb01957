use Rattle.std.proofs.Common.{subst, sym}
use Rattle.glob_search.specs.States.{IsRuleFile}
use Rattle.glob_search.proofs.rule_texts.read_list.Goals as goal

pub returns-in-Err-Read-clause-fails : goal.returns-in-Err-Read-clause-fails
returns-in-Err-Read-clause-fails g c = λ files is. subst (IsRuleFile files) (sym c.in_ok-from_str-in-Err-Read.ensures.ok) is
