use Rattle.std.proofs.Common.{◌≡◌, Some, true, false, ap, refl, ◌∙◌}
use Rattle.glob_rules.specs.Lists.{is_pattern}
use Rattle.glob_rules.proofs.LineLemmas.{is_pattern-accepted, is_pattern-fault, is_pattern-none}
use Rattle.glob_rules.proofs.rules.pattern_of.Goals as goal

pub returns-in_default : goal.returns-in_default
returns-in_default g c =
    let no : is_pattern c.args.glob.now ≡ false = is_pattern-none c.args.glob.now c.in_default.ensures.cases.0 in rw no refl

pub returns-in-Ok-new : goal.returns-in-Ok-new
returns-in-Ok-new g c =
    let (same, utf8) = c.in-Ok.ensures.cases in
    let yes : is_pattern c.args.glob.now ≡ true =
    is_pattern-accepted c.args.glob.now c.in-Ok.text.now same utf8 c.in-Ok-new.ensures.accepted in
    rw yes (ap Some (c.in-Ok-new.ensures.text ∙ same))

pub returns-in-Err-Syntax : goal.returns-in-Err-Syntax
returns-in-Err-Syntax g c =
    let fault = rw c.in-Err-Syntax.field-0-is at c.in-Err-Syntax.ensures.refused in
    let no : is_pattern c.args.glob.now ≡ false =
    is_pattern-fault c.args.glob.now c.in-Ok.text.now _ c.in-Ok.ensures.cases.0 fault in
    rw no refl
