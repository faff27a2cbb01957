use Rattle.std.proofs.Common.{◌≡◌, IsUtf8, chars, rules, subst}
use Rattle.std.proofs.lemmas.Result.{err_from_is_err_and}
use Rattle.glob_pattern.specs.Grammar.Faults.{Refuses}
use Rattle.glob_c.proofs.Messages.{RefusesBytes-of}
use Rattle.glob_c.proofs.fault.parse.Goals as goal

pub returns-in_err-pattern-clause-refused : goal.returns-in_err-pattern-clause-refused
returns-in_err-pattern-clause-refused c =
    let bytes = c.args.bytes.now in
    let p = err_from_is_err_and c.from_residual-in_err-pattern.result c.from_residual-in_err-pattern.ensures.1 in
    let utf8 : IsUtf8 bytes = search rules in
    let same : c.in_ok-text.text.now ≡ bytes = search rules in
    rw (p.1, p.2) (RefusesBytes-of bytes utf8 c.in_err-pattern.field-0.0
    (subst (λ t. Refuses (chars t) c.in_err-pattern.field-0.0) same c.in_err-pattern.ensures.refused))
