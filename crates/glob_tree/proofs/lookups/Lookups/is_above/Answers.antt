use Rattle.std.proofs.Common.{rules, ◌≡◌, refl, sym, subst, ◌∙◌}
use Rattle.std.specs.Prelude.{IfOk}
use Rattle.std.specs.Path.{cur_dir}
use Rattle.glob_tree.proofs.SystemLemmas.Above.{current_found, root_found, left_direct, left_found, left_here, left_on, left_one}
use Rattle.glob_tree.proofs.SystemLemmas.Above.{left_only_up, left_root, left_up}
use Rattle.glob_tree.proofs.SystemLemmas.Ways.{direct_one}
use Rattle.glob_tree.proofs.lookups.Lookups.is_above.Goals as goal

pub returns-then-eq : goal.returns-then-eq
returns-then-eq g c = λ f held direct there.
    left_up f held.1 c.args.directory c.args.path.now c.loop-above.below.now (c.loop-above.invariant.1 f held direct there)
    c.in-Some.above.now c.in-Some.name.now c.in-Some.ensures.0 c.in-Some.ensures.1 (sym c.eq.ensures ∙ c.if-eq.true)

pub returns-then-is_empty : goal.returns-then-is_empty
returns-then-is_empty g c = λ f held direct there.
    let root = root_found f held.1 in
    subst (λ b. IfOk c.is_at.result (λ yes. yes ≡ b))
    (left_root f held.1 c.args.directory c.args.path.now c.loop-above.below.now (c.loop-above.invariant.1 f held direct there)
    c.in-Some.above.now c.in-Some.name.now c.in-Some.ensures.0 c.in-Some.ensures.1 (sym c.eq.ensures ∙ c.if-eq.false)
    (sym c.is_empty.ensures ∙ c.if-is_empty.true))
    (c.is_at.ensures f held root.0 root.1)

pub returns-then-branch : goal.returns-then-branch
returns-then-branch g c = λ f held direct there.
    let left = c.loop-above.invariant.1 f held direct there in
    let down = sym c.eq.ensures ∙ c.if-eq.false in
    let long = sym c.is_empty.ensures ∙ c.if-is_empty.false in
    let at = c.in_ok-is_at.ensures f held
    (left_direct f held.1 c.args.directory c.args.path.now c.loop-above.below.now left c.in-Some.above.now c.in-Some.name.now
    c.in-Some.ensures.0 c.in-Some.ensures.1 down long)
    (left_found f held.1 c.args.directory c.args.path.now c.loop-above.below.now left c.in-Some.above.now c.in-Some.name.now
    c.in-Some.ensures.0 c.in-Some.ensures.1 down long) in
    left_here f held.1 c.args.directory c.args.path.now c.loop-above.below.now left c.in-Some.above.now c.in-Some.name.now
    c.in-Some.ensures.0 c.in-Some.ensures.1 down long (sym at ∙ c.if-branch.true)

pub loop-above-preserved : goal.loop-above-preserved
loop-above-preserved g c = (
  search rules,
  λ f held direct there.
      let left = c.loop-above.invariant.1 f held direct there in
      let down = sym c.eq.ensures ∙ c.if-eq.false in
      let long = sym c.is_empty.ensures ∙ c.if-is_empty.false in
      let at = c.in_ok-is_at.ensures f held
      (left_direct f held.1 c.args.directory c.args.path.now c.loop-above.below.now left c.in-Some.above.now c.in-Some.name.now
      c.in-Some.ensures.0 c.in-Some.ensures.1 down long)
      (left_found f held.1 c.args.directory c.args.path.now c.loop-above.below.now left c.in-Some.above.now c.in-Some.name.now
      c.in-Some.ensures.0 c.in-Some.ensures.1 down long) in
      left_on f held.1 c.args.directory c.args.path.now c.loop-above.below.now left c.in-Some.above.now c.in-Some.name.now
      c.in-Some.ensures.0 c.in-Some.ensures.1 down long (sym at ∙ c.if-branch.false),
)

pub returns-then-eq-2 : goal.returns-then-eq-2
returns-then-eq-2 g c = λ f held direct there.
    left_only_up f held.1 c.args.directory c.args.path.now c.loop-above.below.now (c.loop-above.invariant.1 f held direct there)
    c.in_default.ensures (sym c.eq-2.ensures ∙ c.if-eq-2.true)

pub returns : goal.returns
returns g c = λ f held direct there.
    subst (λ b. IfOk c.is_at-2.result (λ yes. yes ≡ b))
    (left_one f held.1 c.args.directory c.args.path.now c.loop-above.below.now (c.loop-above.invariant.1 f held direct there)
    c.in_default.ensures (sym c.eq-2.ensures ∙ c.if-eq-2.false))
    (c.is_at-2.ensures f held (direct_one f held.1 cur_dir refl) (current_found f held.1).0)
