use Rattle.std.proofs.Common.{◌≡◌, ℕ, suc, ◌-◌, ◌<◌, chars, sym, subst, arith}
use Rattle.glob_text.specs.Text.{Text}
use Rattle.glob_pattern.specs.Matching.Literals.{HasLiteral}
use Rattle.glob_set.specs.Private.Pairs.{pair_class, IsPairAt}
use Rattle.glob_set.proofs.TokenPairs.{IsPairAt-first, IsPairAt-next}
use Rattle.glob_set.proofs.needs.pair_at.Goals as goal

at_first : (pattern : Text) (number y class : ℕ) → number ≡ 0 → class ≡ pair_class 0 y → class < 128 → y < 128
    → HasLiteral (chars pattern) number y → IsPairAt pattern number class
at_first pattern number y class zero is small low literal =
    subst (IsPairAt pattern number) (sym is) (subst (λ n. IsPairAt pattern n (pair_class 0 y)) (sym zero)
    (IsPairAt-first pattern y (subst (λ k. k < 128) is small) low (subst (λ n. HasLiteral (chars pattern) n y) zero literal)))

at_next : (pattern : Text) (number x y class : ℕ) → number ≡ suc (number - 1) → class ≡ pair_class x y → class < 128 → x < 128 → y < 128
    → HasLiteral (chars pattern) (number - 1) x → HasLiteral (chars pattern) number y → IsPairAt pattern number class
at_next pattern number x y class more is small low_x low_y first second =
    subst (IsPairAt pattern number) (sym is) (subst (λ n. IsPairAt pattern n (pair_class x y)) (sym more)
    (IsPairAt-next pattern (number - 1) x y (subst (λ k. k < 128) is small) low_x low_y first
    (subst (λ n. HasLiteral (chars pattern) n y) more second)))

pub returns-then-number-eq0-clause-pair : goal.returns-then-number-eq0-clause-pair
returns-then-number-eq0-clause-pair g c =
    at_first c.args.pattern.now c.args.number _ c.pair_class.result (omega arith) c.pair_class.ensures.class
    c.pair_class.ensures.small c.in_ok-byte.ensures.ascii c.in_ok-byte.ensures.literal

pub returns-clause-pair : goal.returns-clause-pair
returns-clause-pair g c =
    at_next c.args.pattern.now c.args.number _ _ c.pair_class-2.result (omega arith) c.pair_class-2.ensures.class
    c.pair_class-2.ensures.small c.in_ok-before.ensures.ascii c.in_ok-byte.ensures.ascii
    c.in_ok-before.ensures.literal c.in_ok-byte.ensures.literal
