use Rattle.glob_pattern.proofs.BitLemmas.SetBits.{IsBitSet-with}
use Rattle.glob_pattern.proofs.matcher.shape_word.with_bit.Goals as goal

pub returns : goal.returns
returns c = IsBitSet-with c.args.word c.args.bit c.requires
