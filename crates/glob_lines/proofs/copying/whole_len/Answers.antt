use Rattle.std.proofs.Common.{◌≡◌, take, drop, subst, take-append-drop, arith}
use Rattle.std.specs.Prelude.{◌≢◌}
use Rattle.std.proofs.lemmas.List.Elements.{All-append}
use Rattle.glob_lines.specs.Lines.{HasNoEnd}
use Rattle.glob_lines.proofs.copying.whole_len.Goals as goal

pub returns-clause-rest : goal.returns-clause-rest
returns-clause-rest c =
    let bytes = c.args.bytes.now in
    let same : c.loop-len.len ≡ c.args.partial = omega (arith, c.loop-len.invariant.more, c.loop-len-test.false) in
    subst (HasNoEnd c.args.end) (take-append-drop c.args.partial bytes)
    (All-append (λ b. b ≢ c.args.end) (take c.args.partial bytes) (drop c.args.partial bytes) c.requires.partial
    (subst (λ n. HasNoEnd c.args.end (drop n bytes)) same c.loop-len.invariant.none))
