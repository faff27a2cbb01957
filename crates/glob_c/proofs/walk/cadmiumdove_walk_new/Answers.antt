use Rattle.std.proofs.Common.{◌≡◌, [], subst, sym, ap₂, ◌∙◌}
use Rattle.glob_walk.specs.Machines.{Ends, HasGiven}
use Rattle.glob_walk.specs.Walks.{listing}
use Rattle.glob_walk.proofs.WalkLemmas.Giving.{given_fresh}
use Rattle.glob_pattern.specs.Matching.Options.{options_of_bits}
use Rattle.glob_c.specs.WalkSlots.{IsBegun}
use Rattle.glob_c.proofs.walk.cadmiumdove_walk_new.Goals as goal

pub returns-in-Ok-new-2-clause-begun : goal.returns-in-Ok-new-2-clause-begun
returns-in-Ok-new-2-clause-begun c = λ done x.
    let all = listing x (options_of_bits c.args.flags) c.args.pattern.now in
    let begun : HasGiven all x [] c.in-Ok-new.machine =
    given_fresh c.args.limit all x c.in-Ok-new.machine c.in-Ok-new.ensures.fresh
    (c.in-Ok-new.ensures.aim x ∙ ap₂ (listing x) c.from_bits.ensures c.in-Ok.ensures.cases.0) in
    subst (IsBegun all x) (sym c.fill.ensures) (
      subst (λ s. HasGiven all x [] s.machine) (sym c.in-Ok-new-2.ensures.ok) (subst (HasGiven all x [])
          (sym c.new-in-Ok-new.ensures.machine) begun),
      subst (λ s. s.said ≡ Ends) (sym c.in-Ok-new-2.ensures.ok) c.new-in-Ok-new.ensures.said,
    )
