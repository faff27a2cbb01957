use Rattle.std.proofs.Common.{◌-◌, ◌*◌, get_or, arith, map}
use Rattle.glob_pattern.proofs.BitLemmas.SetBits.{IsBitSet-test}
use Rattle.glob_pattern.proofs.PositionLemmas.Words.{end-in_word}
use Rattle.glob_pattern.proofs.matcher.positions.is_whole.Goals as goal

pub returns : goal.returns
returns g c = λ table k alive.
    let w = c.word_before-word.result in
    let bit = IsBitSet-test (get_or c.args.alive.now w 0) (c.args.end - 63 * w) in
    let here = end-in_word table (map g.T.Shaped.shape c.args.tokens.now) c.args.end k c.args.alive.now alive w (c.args.end - 63 * w)
    (omega (arith, c.requires.all, c.requires.some)) (omega arith) (omega arith) in
    (λ t. here.0 (bit.0 t), λ a. bit.1 (here.1 a))
