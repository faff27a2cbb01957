use Rattle.std.proofs.Common.{◌-◌, length, subst₂}
use Rattle.glob_pattern.specs.Private.Parts.{Leaves}
use Rattle.glob_pattern.proofs.pattern.ends.Ends.strip.Goals as goal

pub returns-in_err-part : goal.returns-in_err-part
returns-in_err-part g c = rw c.from_residual.ensures c.in_err-part.ensures

pub returns-then-self-2 : goal.returns-then-self-2
returns-then-self-2 g c =
    subst₂ (λ k n. Leaves c.args.options c.args.tokens.now c.args.text.now k (length c.args.tokens.now - n)
    c.in_ok-part.part.text.now c.in_ok-part.part.opening)
    c.if-self.true c.if-self-2.true c.in_ok-part.ensures

pub take_first-requires-clause-utf8 : goal.take_first-requires-clause-utf8
take_first-requires-clause-utf8 g c = c.in_ok-part.ensures.utf8

pub returns-in_err-left : goal.returns-in_err-left
returns-in_err-left g c = rw c.from_residual-in_err-left.ensures (c.in_err-left.ensures c.args.text.now c.in_ok-part.ensures)

pub take_last-requires-clause-utf8 : goal.take_last-requires-clause-utf8
take_last-requires-clause-utf8 g c = (c.in_ok-left.ensures c.args.text.now c.in_ok-part.ensures).utf8

pub returns : goal.returns
returns g c = c.take_last.ensures c.args.text.now (c.in_ok-left.ensures c.args.text.now c.in_ok-part.ensures)
