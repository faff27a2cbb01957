use Rattle.std.proofs.Common.{◌∙◌, ap, sym, replicate}
use Rattle.std.proofs.Output.{has_written_of_eq}
use Rattle.std.proofs.lemmas.Iterator.{YieldsList-from_chars, YieldsList-from_take}
use Rattle.std.proofs.lemmas.Iterator.Consumers.{YieldsList-end}
use Rattle.std.proofs.lemmas.List.{map-id}
use Rattle.std.specs.List.{flat_map}
use Rattle.globs.specs.Visible.{width}
use Rattle.globs.proofs.visible.write_indent.Goals as goal

pub returns : goal.returns
returns g c = λ plain _.
    let all = YieldsList-end (YieldsList-from_take c.args.characters
    (YieldsList-from_chars c.args.text.now c.utf8.text (cc)) (cc)) c.loop-c.yielded _ c.loop-c.yielded_by _ _
    c.in-None.is c.next.ensures.steps in
    has_written_of_eq _ _ _ _ _ (ap (flat_map (λ c. replicate (width c) 32)) (sym (map-id c.loop-c.yielded) ∙ all.0))
    (c.loop-c.invariant plain)
