use Rattle.std.proofs.Common.{◌*◌, ◌%◌, ◌^◌, false, inr}
use Rattle.std.specs.Int.Bits.{or_zero_r}
use Rattle.glob_pattern.proofs.BitLemmas.SetBits.{IsBitSet-flat}
use Rattle.glob_pattern.proofs.PositionLemmas.Words.{IsAliveWord-stepped}
use Rattle.glob_pattern.proofs.matcher.shape_word.ShapeWord.step_by.Goals as goal

pub returns : goal.returns
returns c = λ table shapes end start k from within are taken at first.
    let flat = c.requires c.if-not-flat.false in
    let begun = c.args.took * 2 ^ 1 % 2 ^ 64 in
    IsAliveWord-stepped table shapes end start c.args.self from within are k c.args.took c.args.took c.args.opens false taken at first
    (λ j lt. (λ set. (set, inr (flat.free j)), λ (set, may). set))
    _ (rw (or_zero_r begun) (IsBitSet-flat begun c.args.self.wildcards flat.apart))
