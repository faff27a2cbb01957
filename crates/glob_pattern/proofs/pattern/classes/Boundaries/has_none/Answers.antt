use Rattle.std.proofs.Common.{◌≡◌, ◌+◌, ◌-◌, Bool, false, get_or, take, drop, replicate, sym, ◌∙◌, ap, arith}
use Rattle.std.specs.Cmp.{booleans_Decides}
use Rattle.std.proofs.lemmas.Bool.{false≢true}
use Rattle.std.proofs.lemmas.List.{get_or-take, get_or-drop, get_or-replicate}
use Rattle.std.proofs.lemmas.Slice.Eq.{slice_eq-Decides}
use Rattle.glob_pattern.proofs.pattern.classes.Boundaries.has_none.Goals as goal

pub returns : goal.returns
returns g c = λ yes d from to cut.
    let start = c.args.start in
    let ascii = c.args.self.now.ascii in
    let eight = take (start + 8 - start) (drop start ascii) in
    let same : eight ≡ replicate 8 false = (slice_eq-Decides booleans_Decides eight (replicate 8 false) c.eq.result c.eq.ensures).0 yes in
    let here : start + (d - start) ≡ d = omega arith in
    let at : get_or eight (d - start) false ≡ get_or ascii d false = get_or-take (start + 8 - start) (drop start ascii)
    (d - start) false (omega (arith, from, to)) ∙ get_or-drop start ascii (d - start) false ∙ ap
    (λ k. get_or ascii k false) here in
    let none : get_or (replicate 8 false) (d - start) false ≡ false = get_or-replicate {A = Bool} 8 (d - start) false
    false (omega (arith, from, to)) in
    false≢true (sym none ∙ sym (ap (λ xs. get_or xs (d - start) false) same) ∙ at ∙ cut)
