use Rattle.std.proofs.Common.{sym, ◌∙◌}
use Rattle.std.proofs.lemmas.Result.{IfOk-weaker}
use Rattle.globs.proofs.CopyLemmas.{decided_by_list, decided_here, decided_no_text}
use Rattle.globs.proofs.ignore.naming.Naming.deciding.Goals as goal

pub returns-in-Some : goal.returns-in-Some
returns-in-Some g c =
    decided_here c.args.bytes.now c.args.self.now.list.now c.in-Some.path.now c.in-Some.ensures (sym c.if-is_here.true ∙ c.is_here.ensures)

pub returns-in-Some-2 : goal.returns-in-Some-2
returns-in-Some-2 g c =
    IfOk-weaker c.deciding_rule.result _ _
    (λ rule decides. decided_by_list c.args.bytes.now c.args.self.now.list.now c.in-Some.path.now c.is_directory.result
    rule c.in-Some.ensures
    (sym c.if-is_here.false ∙ c.is_here.ensures) c.is_directory.ensures decides) c.deciding_rule.ensures.rule

pub returns-in-None : goal.returns-in-None
returns-in-None g c = decided_no_text c.args.bytes.now c.args.self.now.list.now c.in-None.ensures
