use Rattle.std.proofs.Common.{◌≡◌, ◌-◌, ◌<◌, ◌≤◌, length, get_or, take, sym, ap, ◌∙◌, arith}
use Rattle.glob_set.proofs.ListReading.{IfOk-follow}
use Rattle.glob_rules.proofs.DecidingLemmas.{deciding-here, deciding-end}
use Rattle.glob_rules.proofs.list.IgnoreList.deciding.Goals as goal

pub returns-then-ignores-clause-number : goal.returns-then-ignores-clause-number
returns-then-ignores-clause-number g c =
    let list = c.args.self.now in
    let path = c.args.path.now in
    let place = c.loop-place.place in
    let below : place < length path = omega (arith, ap length c.as_bytes-bytes.ensures.value) in
    let from_start : place - 0 ≡ place = omega arith in
    deciding-here list path c.args.is_directory place c.range.result.now c.in_ok-above.above below
    (ap (λ bs. get_or bs place 0) (sym c.as_bytes-bytes.ensures.value) ∙ c.if-bytes-place-eq47.true)
    (c.range.ensures.value ∙ ap (λ n. take n path) from_start) c.in_ok-above.ensures.number
    (sym c.ignores.ensures ∙ c.if-ignores.true) c.loop-place.invariant

pub returns-clause-number : goal.returns-clause-number
returns-clause-number g c =
    let list = c.args.self.now in
    let path = c.args.path.now in
    let end : length path ≤ c.loop-place.place = omega (arith, ap length c.as_bytes-bytes.ensures.value) in
    IfOk-follow c.last_naming-2.result _ _ (λ n e. e ∙ deciding-end list path c.args.is_directory c.loop-place.place
    end c.loop-place.invariant) c.last_naming-2.ensures.number
