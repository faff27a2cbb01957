use Rattle.std.proofs.Common.{◌<◌, ◌≤◌, ◌++◌, length, sym, ap, ◌∙◌, arith}
use Rattle.std.specs.List.{filter}
use Rattle.std.proofs.lemmas.List.{take_all}
use Rattle.glob_rules.specs.StepTexts.{holds, held}
use Rattle.glob_rules.specs.declared.listing.TheConstants.{ORDER}
use Rattle.glob_rules.proofs.LineLemmas.{filtered-yes, filtered-no}
use Rattle.glob_rules.proofs.listing.write_held.Goals as goal
use Rattle.glob_rules.proofs.listing.write_held.Goals.{then-holds+in_ok-push, else-holds}

pub loop-place-preserved : goal.loop-place-preserved
loop-place-preserved g c =
    let p = holds c.args.spans.now in
    let i = c.loop-place.place in
    let inside : i < length ORDER = omega arith in
    elim c.if-holds.branch [
      | then-holds+in_ok-push w ↦
          filtered-yes p ORDER c.args.glob.now.items c.loop-place.glob.items i inside c.loop-place.invariant c.if-holds.glob.items
          (ap (λ v. v.items) w.glob-is ∙ w.in_ok-push.ensures.items) (sym c.holds.ensures ∙ w.if-holds.true)
      | else-holds w ↦
          ap (λ v. v.items) w.glob-is ∙ filtered-no p ORDER c.args.glob.now.items c.loop-place.glob.items i inside
          c.loop-place.invariant (sym c.holds.ensures ∙ w.if-holds.false)
    ]

pub returns : goal.returns
unfolding held
returns g c =
    let end : length ORDER ≤ c.loop-place.place = omega arith in
    c.loop-place.invariant ∙ ap (λ xs. c.args.glob.now.items ++ filter (holds c.args.spans.now) xs) (take_all c.loop-place.place ORDER end)
