use Rattle.std.proofs.Common.{◌≡◌, ◌∙◌, arith}
use Rattle.std.proofs.lemmas.List.Elements.{same_from_all_zip}
use Rattle.glob_pattern.proofs.pattern.compiled.Compiled.clone.Goals as goal

pub invariant_of-result : goal.invariant_of-result
invariant_of-result g c =
    let tokens : c.in_ok-clone.field-0.items ≡ c.self.inside.tokens.items = same_from_all_zip _ _ _
    c.in_ok-clone.ensures.cases.0 (λ x y same. grind arith) in
    let is = c.self.invariant in
    rw tokens (record {
      at_ends = is.at_ends;
      inside = is.inside;
      between = c.in_ok-clone-2.ensures _ _ is.between;
    })

pub returns : goal.returns
returns g c = same_from_all_zip _ _ _ c.in_ok-clone.ensures.cases.0 (λ x y same. grind arith) ∙ c.self.view_is
