use Rattle.std.proofs.Common.{◌≡◌, ◌<◌, Bool, true, false, ◌&&◌, not, [], length, get_or, IfOk, IsOk, refl, sym, ap, subst, ◌∙◌, arith}
use Rattle.std.proofs.lemmas.List.{get_or_default}
use Rattle.glob_set.specs.Sets.{AreShort}
use Rattle.glob_set.proofs.ListReading.{AreShort-at, IfOk-follow}
use Rattle.glob_rules.specs.Lists.{Ignores}
use Rattle.glob_rules.specs.Deciding.{names}
use Rattle.glob_rules.specs.declared.rule.Rule.{Rule}
use Rattle.glob_rules.proofs.DecidingLemmas.{names-not_directory, names-answer}
use Rattle.glob_rules.proofs.list.IgnoreList.names.Given.{Over}
use Rattle.glob_rules.proofs.list.IgnoreList.names.Goals as goal
use Rattle.glob_rules.proofs.list.IgnoreList.names.Goals.{else-index-via-then-index+else-not-is_directory, else-index-via-else-index}

and_none : (b : Bool) → (b && false) ≡ false
and_none true = refl
and_none false = refl

pub returns-then-not-is_directory-clause-answer : goal.returns-then-not-is_directory-clause-answer
returns-then-not-is_directory-clause-answer g c =
    let inside = c.self.inside in
    let list : Ignores = record { lines = inside.lines; rules = inside.rules.items; patterns = inside.set.patterns } in
    let k = c.args.number in
    let path = c.args.path.now in
    let d = c.args.is_directory in
    subst (λ (l : Ignores). k < length l.rules → false ≡ names l path d k) c.self.view_is
    (λ below. names-not_directory list path d k (ap (λ (r : Rule). r.directories)
    (sym (c.index.ensures ∙ get_or_default list.rules k _ _ below)) ∙ c.if-index.true) c.if-not-is_directory.true)
    c.requires

pub returns-clause-answer : goal.returns-clause-answer
returns-clause-answer g c =
    let inside = c.self.inside in
    let list : Ignores = record { lines = inside.lines; rules = inside.rules.items; patterns = inside.set.patterns } in
    let k = c.args.number in
    let path = c.args.path.now in
    let d = c.args.is_directory in
    let any : (c.index.result.now.directories && not d) ≡ false =
    elim c.else-index.branch [
      | else-index-via-then-index+else-not-is_directory w ↦ rw w.if-not-is_directory.false (and_none c.index.result.now.directories)
      | else-index-via-else-index w ↦ rw w.if-index.false refl
    ] in
    subst (λ (l : Ignores). k < length l.rules → IfOk c.matches_with.result (λ b. b ≡ names l path d k)) c.self.view_is
    (λ below.
    let kind = ap (λ (r : Rule). r.directories) (c.index.ensures ∙ get_or_default list.rules k _ _ below) in
    let few : k < length inside.set.patterns = omega (arith, below, c.self.invariant.0) in
    let is = c.index-patterns-number.is ∙ ap (λ ps. get_or ps k c.index-patterns-number.result) c.patterns.ensures
    ∙ get_or_default inside.set.patterns k _ [] few in
    IfOk-follow c.matches_with.result _ _
    (λ b answer. names-answer list path d k c.index.result.now.directories c.index-patterns-number.result
    c.rule_options.result b kind is c.rule_options.ensures any answer)
    c.matches_with.ensures.answer)
    c.requires

pub returns-clause-short : goal.returns-clause-short
returns-clause-short g c =
    let inside = c.self.inside in
    let list : Ignores = record { lines = inside.lines; rules = inside.rules.items; patterns = inside.set.patterns } in
    let k = c.args.number in
    subst (λ (l : Ignores). k < length l.rules → AreShort l.patterns → IsOk c.matches_with.result) c.self.view_is
    (λ below short.
    let few : k < length inside.set.patterns = omega (arith, below, c.self.invariant.0) in
    let is = c.index-patterns-number.is ∙ ap (λ ps. get_or ps k c.index-patterns-number.result) c.patterns.ensures in
    c.matches_with.ensures.short (AreShort-at inside.set.patterns k c.index-patterns-number.result few is short))
    c.requires

pub index-requires : goal.index-requires
index-requires g c =
    omega (arith, subst (λ (l : Ignores). c.args.number < length l.rules) (sym c.self.view_is) c.requires, c.self.inside.rules.ok.0)

-- each rule has a pattern
has_pattern : (g : Over) (c : goal.After-patterns g) → c.args.number < length c.patterns.result.now
has_pattern g c =
    let below = subst (λ (l : Ignores). c.args.number < length l.rules) (sym c.self.view_is) c.requires in
    rw c.patterns.ensures (subst (λ n. c.args.number < n) c.self.invariant.0 below)

pub offset_bounds-patterns-number : goal.offset_bounds-patterns-number
offset_bounds-patterns-number g c = omega (arith, has_pattern g c)

pub bounds-patterns-number : goal.bounds-patterns-number
bounds-patterns-number g c = has_pattern g c
