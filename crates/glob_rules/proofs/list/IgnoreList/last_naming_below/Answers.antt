use Rattle.std.proofs.Common.{◌≡◌, suc, ◌-◌, sym, ap, ◌∙◌, arith}
use Rattle.glob_rules.specs.Deciding.{last_naming}
use Rattle.glob_rules.proofs.DecidingLemmas.{last_naming-less, last_naming-here}
use Rattle.glob_rules.proofs.list.IgnoreList.last_naming_below.Goals as goal

pub loop-left-preserved : goal.loop-left-preserved
loop-left-preserved g c =
    let left = c.loop-left.left in
    let next : left ≡ suc (left - 1) = omega arith in
    record {
      within = omega (arith, c.loop-left.invariant.within);
      same = c.loop-left.invariant.same
          ∙ last_naming-less c.args.self.now c.args.path.now c.args.is_directory left (left - 1) next
          (sym c.in_ok-names.ensures.answer ∙ c.if-branch.false);
    }

pub returns-then-branch-clause-number : goal.returns-then-branch-clause-number
returns-then-branch-clause-number g c =
    let left = c.loop-left.left in
    let next : left ≡ suc (left - 1) = omega arith in
    sym (c.loop-left.invariant.same
    ∙ last_naming-here c.args.self.now c.args.path.now c.args.is_directory left (left - 1) next
    (sym c.in_ok-names.ensures.answer ∙ c.if-branch.true))

pub returns-clause-number : goal.returns-clause-number
returns-clause-number g c =
    let end : c.loop-left.left ≡ 0 = omega arith in
    sym (c.loop-left.invariant.same ∙ ap (last_naming c.args.self.now c.args.path.now c.args.is_directory) end)
