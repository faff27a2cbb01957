use Rattle.std.proofs.Common.{◌≡◌, ◌≤◌, ℕ, ◌+◌, ◌&&◌, ◌||◌, ◌==◌, nat_le, nat_lt, max, arith}
use Rattle.std.proofs.lemmas.Bool.Decides.{nat_tests}
use Rattle.glob_pattern.specs.Grammar.Brackets.{in_range}
use Rattle.glob_pattern.proofs.MaskLemmas.Putting.{IsWith-after}
use Rattle.glob_pattern.proofs.pattern.char_masks.row.paint.Goals as goal

-- one more class
more : (first class n : ℕ) → first ≤ class → ((nat_le first n && nat_lt n class) || n == class) ≡ (nat_le first n && nat_lt n (class + 1))
more first class n from = grind (arith, nat_tests)

all : (first last class n : ℕ) → class ≡ max first (last + 1) → (nat_le first n && nat_lt n class) ≡ in_range first last n
all first last class n is = grind (arith, nat_tests)

pub loop-class-preserved : goal.loop-class-preserved
loop-class-preserved c = record {
  inside = omega arith;
  listed = λ n.
      rw (← more c.args.first c.loop-class.class n c.loop-class.auto.class)
      (IsWith-after _ _ _ c.args.bit _ _ (c.loop-class.invariant.listed n) (c.list_class.ensures n));
}

pub returns : goal.returns
returns c = λ n.
    rw (← all c.args.first c.args.last c.loop-class.class n (omega arith)) (c.loop-class.invariant.listed n)
