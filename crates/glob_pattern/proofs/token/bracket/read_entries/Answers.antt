use Rattle.std.proofs.Common.{◌∙◌, refl, sym, arith}
use Rattle.std.proofs.lemmas.Grind.{common_steps}
use Rattle.std.proofs.lemmas.List.{append-nil, nil_from_length}
use Rattle.glob_pattern.proofs.token.bracket.read_entries.Goals as goal

pub loop-rest-init : goal.loop-rest-init
loop-rest-init g c = rw c.in_ok-entries.ensures.items refl

pub slice_bounds-others-count : goal.slice_bounds-others-count
slice_bounds-others-count g c = c.in-len1-up.len_at_least

pub bounds-rest-0 : goal.bounds-rest-0
bounds-rest-0 g c = c.in-len1-up.len_at_least

pub slice_bounds-others-start : goal.slice_bounds-others-start
slice_bounds-others-start g c = c.in-len1-up.len_at_least

pub slice_bounds-after-count : goal.slice_bounds-after-count
slice_bounds-after-count g c = c.in-len2-up.len_at_least

pub bounds-others-1 : goal.bounds-others-1
bounds-others-1 g c = c.in-len2-up.len_at_least

pub slice_bounds-after-start : goal.slice_bounds-after-start
slice_bounds-after-start g c = c.in-len2-up.len_at_least

pub returns : goal.returns
returns g c =
    let none = nil_from_length c.loop-rest.rest.now (omega (arith, c.in_default.len_below)) in
    sym (append-nil c.loop-rest.entries.items) ∙ rw none at c.loop-rest.invariant

pub loop-rest-preserved : goal.loop-rest-preserved
loop-rest-preserved g c = grind (arith, common_steps)
