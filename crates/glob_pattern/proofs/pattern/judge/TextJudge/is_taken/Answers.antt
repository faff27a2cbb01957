use Rattle.std.proofs.lemmas.List.{get_or_default}
use Rattle.glob_pattern.specs.Private.TextTable.{table_within}
use Rattle.glob_pattern.specs.declared.token.Token.TheVariants.{AnyChar}
use Rattle.glob_pattern.proofs.pattern.judge.TextJudge.is_taken.Goals as goal

pub returns : goal.returns
unfolding table_within
returns g c =
    let judge = c.args.self.now in
    let stepped = judge.stepped in
    let here = get_or_default judge.tokens.now c.args.token c.index-self-token.result AnyChar c.requires.token in
    rw (← (stepped.last c.requires.stepped), ← (stepped.before c.requires.stepped)) (rw here at c.takes.ensures)
