use Rattle.std.proofs.Common.{subst, ◌∙◌}
use Rattle.std.specs.IoError.{error_kind}
use Rattle.glob_tree.specs.Answers.{IsListError}
use Rattle.glob_tree.specs.Content.{list_result}
use Rattle.glob_tree.proofs.ContentLemmas.Contents.{IsContent-from_test}
use Rattle.glob_search.proofs.EngineLemmas.Listed.{listed-all, listed-shut}
use Rattle.glob_search.proofs.entries.list.Goals as goal

pub returns-in-Err-Read-clause-entries : goal.returns-in-Err-Read-clause-entries
returns-in-Err-Read-clause-entries g c = λ content names told there path. (
  c.in_ok-clone-in-Err-Read.ensures.cases,
  listed-shut content (IsContent-from_test content told.1) names there c.as_str.result.now (c.as_str.ensures.value
      ∙ path) (error_kind c.in-Err-Read.error)
      (subst (IsListError (list_result content c.as_str.result.now)) c.in-Err-Read.field-0-is (c.in-Err-Read.ensures.fails content told)),
)

pub returns-clause-entries : goal.returns-clause-entries
returns-clause-entries g c = λ content names told there path.
    listed-all content (IsContent-from_test content told.1) names there c.as_str.result.now (c.as_str.ensures.value ∙ path) c.args.source
    c.in-Ok.entries.items c.put_in_order.new.entries.items (c.in-Ok.ensures.entries content told)
    (λ all. c.put_in_order.ensures.order content names told.1 all)
