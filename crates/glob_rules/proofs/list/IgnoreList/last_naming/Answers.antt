use Rattle.std.proofs.Common.{◌≡◌, ◌+◌, ◌<◌, ◌≤◌, length, Some, None, subst, ◌∙◌, arith}
use Rattle.glob_set.specs.Sets.{LastMatch}
use Rattle.glob_set.proofs.ListReading.{IfOk-follow}
use Rattle.glob_rules.specs.Lists.{Ignores, rule_options}
use Rattle.glob_rules.proofs.DecidingLemmas.{last_named-below, last_named-none, LastMatch-below}
use Rattle.glob_rules.proofs.list.IgnoreList.last_naming.Goals as goal

pub overflow_add-number : goal.overflow_add-number
overflow_add-number g c =
    let set = c.self.inside.set in
    let rules = c.self.inside.rules in
    let last = subst (LastMatch set.options set.patterns c.args.path.now) c.in-Some.is c.in_ok-number.ensures.answer in
    let below : c.in-Some.number < length set.patterns = LastMatch-below set.options set.patterns c.args.path.now c.in-Some.number last in
    omega (arith, below, c.self.invariant.0, rules.ok.0, rules.ok.1, rules.small)

pub last_naming_below-requires : goal.last_naming_below-requires
last_naming_below-requires g c =
    let set = c.self.inside.set in
    let last = subst (LastMatch set.options set.patterns c.args.path.now) c.in-Some.is c.in_ok-number.ensures.answer in
    let below : c.in-Some.number < length set.patterns = LastMatch-below set.options set.patterns c.args.path.now c.in-Some.number last in
    subst (λ (l : Ignores). c.in-Some.number + 1 ≤ length l.rules) c.self.view_is (omega (arith, below, c.self.invariant.0))

pub returns-in-Some-clause-number : goal.returns-in-Some-clause-number
returns-in-Some-clause-number g c =
    let set = c.self.inside.set in
    let list = c.args.self.now in
    let path = c.args.path.now in
    let last = subst (LastMatch set.options set.patterns path) c.in-Some.is c.in_ok-number.ensures.answer in
    let known : (length list.rules ≡ length list.patterns) × LastMatch rule_options list.patterns path (Some c.in-Some.number) =
    subst (λ (l : Ignores). (length l.rules ≡ length l.patterns) × LastMatch rule_options l.patterns path
    (Some c.in-Some.number)) c.self.view_is
    (c.self.invariant.0, subst (λ o. LastMatch o set.patterns path (Some c.in-Some.number)) c.self.invariant.1 last) in
    IfOk-follow c.last_naming_below.result _ _ (λ n e. e ∙ last_named-below list path c.args.is_directory
    c.in-Some.number known.0 known.1) c.last_naming_below.ensures.number

pub returns-in-None-clause-number : goal.returns-in-None-clause-number
returns-in-None-clause-number g c =
    let set = c.self.inside.set in
    let list = c.args.self.now in
    let path = c.args.path.now in
    let last = subst (LastMatch set.options set.patterns path) c.in-None.is c.in_ok-number.ensures.answer in
    let known : (length list.rules ≡ length list.patterns) × LastMatch rule_options list.patterns path None =
    subst (λ (l : Ignores). (length l.rules ≡ length l.patterns) × LastMatch rule_options l.patterns path None) c.self.view_is
    (c.self.invariant.0, subst (λ o. LastMatch o set.patterns path None) c.self.invariant.1 last) in
    last_named-none list path c.args.is_directory known.0 known.1
