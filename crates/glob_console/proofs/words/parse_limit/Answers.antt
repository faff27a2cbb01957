use Rattle.std.proofs.Common.{sym, ◌∙◌}
use Rattle.glob_console.proofs.NumberLemmas.{result_ok-limit}
use Rattle.glob_console.proofs.words.parse_limit.Goals as goal

pub returns : goal.returns
returns c =
    c.ok.ensures.value
    ∙ result_ok-limit _ c.args.digits.now c.if-digits-gt20.false (sym c.are_digits.ensures ∙ c.if-not-are_digits.false)
    c.parse.ensures.value.0
