use Rattle.std.proofs.Common.{string_bytes}
use Rattle.std.proofs.lemmas.Result.{err_from_is_err_and}
use Rattle.glob_set.specs.declared.braces.error.BraceError.TheVariants.{TooMany}
use Rattle.glob_set.specs.declared.braces.error.BraceRefusal.TheVariants.{Syntax}
use Rattle.glob_set.proofs.BraceAnswers.{refuses_memory, refuses_text, are_alternatives, as_few, each_is_found}
use Rattle.glob_set.proofs.BraceCounting.{too_many}
use Rattle.glob_set.proofs.braces.expand.Goals as goal

pub returns-in_err-lexemes-clause-refused : goal.returns-in_err-lexemes-clause-refused
returns-in_err-lexemes-clause-refused g c = refuses_memory _ _ c.from_residual.ensures.1

pub returns-in_err-count-clause-refused : goal.returns-in_err-count-clause-refused
returns-in_err-count-clause-refused g c =
    let p = err_from_is_err_and c.from_residual-in_err-count.result c.from_residual-in_err-count.ensures.1 in
    rw (p.1, p.2) (refuses_text _ _ _ _ c.as_slice-lexemes.ensures.value c.in_ok-lexemes.ensures c.in_err-count.ensures.refused)

pub returns-then-count-gt-MOST_ALTERNATIVES-clause-refused : goal.returns-then-count-gt-MOST_ALTERNATIVES-clause-refused
returns-then-count-gt-MOST_ALTERNATIVES-clause-refused g c =
    refuses_text _ _ _ (Syntax TooMany) c.as_slice-lexemes.ensures.value c.in_ok-lexemes.ensures
    (too_many _ _ c.in_ok-count.ensures.counted c.if-count-gt-MOST_ALTERNATIVES.true)

pub returns-in_err-expand_all-clause-refused : goal.returns-in_err-expand_all-clause-refused
returns-in_err-expand_all-clause-refused g c = refuses_memory _ _ c.from_residual-in_err-expand_all.ensures.1

pub returns-clause-alternatives : goal.returns-clause-alternatives
returns-clause-alternatives g c =
    are_alternatives _ _ _ _ _ c.as_slice-lexemes.ensures.value c.in_ok-lexemes.ensures c.in_ok-count.ensures.counted
    c.in_ok-expand_all.ensures

pub returns-clause-few : goal.returns-clause-few
returns-clause-few g c =
    as_few (λ s. string_bytes s) _ _ _ c.in_ok-count.ensures.counted c.if-count-gt-MOST_ALTERNATIVES.false c.in_ok-expand_all.ensures

pub returns-clause-each : goal.returns-clause-each
returns-clause-each g c =
    λ alternative. each_is_found _ _ alternative
    (are_alternatives _ _ _ _ _ c.as_slice-lexemes.ensures.value c.in_ok-lexemes.ensures c.in_ok-count.ensures.counted
    c.in_ok-expand_all.ensures)
