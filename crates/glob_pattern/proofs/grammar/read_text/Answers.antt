use Rattle.std.proofs.Common.{rules, ◌≡◌, ◌+◌, length, refl, subst, arith}
use Rattle.glob_text.specs.Text.{Has}
use Rattle.glob_pattern.specs.Grammar.Units.{UnitAt}
use Rattle.glob_pattern.specs.declared.token.Token.TheVariants.{Literal, AnyChar}
use Rattle.glob_pattern.proofs.GrammarLemmas.Units.{Has-read, UnitAt-within, UnitAt-Some}
use Rattle.glob_pattern.proofs.GrammarLemmas.Reading.{HasRead-start, HasRead-more, HasRead-push, UnitAt-bracket}
use Rattle.glob_pattern.proofs.GrammarLemmas.Reading.{HasTokens-HasRead, Refuses-HasRead}
use Rattle.glob_pattern.proofs.grammar.read_text.Goals as goal

pub loop-place-init : goal.loop-place-init
loop-place-init g c = rw c.in_ok-tokens.ensures.items (HasRead-start c.args.text.now)

pub loop-place-preserved-in-63 : goal.loop-place-preserved-in-63
loop-place-preserved-in-63 g c =
    let text = c.args.text.now in
    let f = c.loop-place.place in
    let x = c.index-text-place.result in
    let unit : UnitAt text f AnyChar (f + 1) = (
      subst (Has text f) c.in-63.is (Has-read text f x c.loop-place-test.true
          c.index-text-place.is),
      refl,
    ) in
    rw c.in_ok-push-in-63.ensures.items (HasRead-push text c.loop-place.tokens.items f AnyChar (f + 1) c.loop-place.invariant unit refl)

pub returns-in_err-token-in-42-clause-refused : goal.returns-in_err-token-in-42-clause-refused
returns-in_err-token-in-42-clause-refused g c =
    let refuses = Refuses-HasRead c.args.text.now c.loop-place.tokens.items c.loop-place.place
    c.in_err-token-in-42.field-0.0 c.loop-place.invariant c.loop-place-test.true c.in_err-token-in-42.ensures.fault
    in
    search rules

pub loop-place-smaller-in-42 : goal.loop-place-smaller-in-42
loop-place-smaller-in-42 g c =
    let text = c.args.text.now in
    let f = c.loop-place.place in
    let t = c.in_ok-token-in-42.token in
    let e = c.in_ok-token-in-42.end in
    let reach = UnitAt-within text f t e (UnitAt-Some text f t e c.loop-place-test.true c.loop-place.invariant.1
    c.in_ok-token-in-42.ensures.unit) in
    omega arith

pub loop-place-preserved-in-42 : goal.loop-place-preserved-in-42
loop-place-preserved-in-42 g c =
    let text = c.args.text.now in
    let f = c.loop-place.place in
    let t = c.in_ok-token-in-42.token in
    let e = c.in_ok-token-in-42.end in
    let unit = UnitAt-Some text f t e c.loop-place-test.true c.loop-place.invariant.1 c.in_ok-token-in-42.ensures.unit in
    HasRead-more text c.loop-place.tokens.items c.push_stars.new.tokens.items f t e c.loop-place.invariant unit
    c.in_ok-push_stars-in-42.ensures

pub returns-in_err-token-in-91-clause-refused : goal.returns-in_err-token-in-91-clause-refused
returns-in_err-token-in-91-clause-refused g c =
    let refuses = Refuses-HasRead c.args.text.now c.loop-place.tokens.items c.loop-place.place
    c.in_err-token-in-91.field-0.0 c.loop-place.invariant c.loop-place-test.true c.in_err-token-in-91.ensures.fault
    in
    search rules

pub loop-place-smaller-in-91 : goal.loop-place-smaller-in-91
loop-place-smaller-in-91 g c =
    let text = c.args.text.now in
    let f = c.loop-place.place in
    let t = c.in_ok-token-in-91.token in
    let e = c.in_ok-token-in-91.end in
    let reach = UnitAt-within text f t e (UnitAt-Some text f t e c.loop-place-test.true c.loop-place.invariant.1
    c.in_ok-token-in-91.ensures.unit) in
    omega arith

pub loop-place-preserved-in-91 : goal.loop-place-preserved-in-91
loop-place-preserved-in-91 g c =
    let text = c.args.text.now in
    let f = c.loop-place.place in
    let t = c.in_ok-token-in-91.token in
    let e = c.in_ok-token-in-91.end in
    let unit = UnitAt-Some text f t e c.loop-place-test.true c.loop-place.invariant.1 c.in_ok-token-in-91.ensures.unit in
    let at = subst (Has text f) c.in-91.is (Has-read text f c.index-text-place.result c.loop-place-test.true c.index-text-place.is) in
    rw c.in_ok-push-in-91.ensures.items (HasRead-push text c.loop-place.tokens.items f t e c.loop-place.invariant unit
    (UnitAt-bracket text f t e unit at))

pub loop-place-preserved : goal.loop-place-preserved
loop-place-preserved g c =
    let text = c.args.text.now in
    let f = c.loop-place.place in
    let x = c.index-text-place.result in
    let at = Has-read text f x c.loop-place-test.true c.index-text-place.is in
    let unit : UnitAt text f (Literal x) (f + 1) = (at, λ e. omega (arith, e), λ e. omega (arith, e), λ e. omega (arith, e), refl) in
    rw c.in_ok-push-in_default.ensures.items (HasRead-push text c.loop-place.tokens.items f (Literal x)
    (f + 1) c.loop-place.invariant unit refl)

pub returns-clause-accepted : goal.returns-clause-accepted
returns-clause-accepted g c =
    let done : c.loop-place.place ≡ length c.args.text.now = omega (arith, c.loop-place.invariant.0, c.loop-place-test.false) in
    HasTokens-HasRead c.args.text.now c.loop-place.tokens.items (rw done at c.loop-place.invariant)
