use Rattle.std.proofs.Common.{refl, sym, ◌∙◌}
use Rattle.std.proofs.lemmas.Bool.{true≢false}
use Rattle.glob_search.proofs.ActiveLemmas.{after_bytes-boundary, after_bytes-inside}
use Rattle.glob_search.proofs.active.below.Goals as goal

pub returns-in-Some : goal.returns-in-Some
returns-in-Some c =
    c.in-Some.ensures.back
    ∙ sym (after_bytes-boundary c.args.path.now c.args.above (c.in-Some.ensures.variant.0 refl))

pub returns-in-None : goal.returns-in-None
returns-in-None c =
    sym (after_bytes-inside c.args.path.now c.args.above (λ cut. true≢false (sym (c.in-None.ensures.variant.1 cut))))
