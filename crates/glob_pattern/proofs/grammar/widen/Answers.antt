use Rattle.std.proofs.Common.{◌∷◌, ◌++◌, ◌<◌, [], ◌∙◌, get_or, ap, sym, arith, length-set}
use Rattle.std.proofs.lemmas.List.{take_more, take_more_set}
use Rattle.std.proofs.lemmas.Bool.{and_parts, ltb-true}
use Rattle.std.proofs.lemmas.Str.Ascii.{IsAscii-more}
use Rattle.glob_pattern.proofs.grammar.widen.Goals as goal

pub loop-n-preserved : goal.loop-n-preserved
loop-n-preserved c =
    let i = c.loop-n.invariant in
    let bytes = c.args.bytes.now in
    let n = c.loop-n.n in
    let b = get_or bytes n 0 in
    record {
      count = length-set c.loop-n.characters n b ∙ i.count;
      written = take_more_set c.loop-n.characters n b (omega (arith, i.count, c.loop-n-test.true)) ∙ ap
          (λ l. l ++ b ∷ []) i.written ∙ sym (take_more bytes n 0 c.loop-n-test.true);
      ascii = λ t.
          let (before, here) = and_parts c.loop-n.ascii c.is_ascii-ascii.result t in
          let below : b < 128 = ltb-true b 128 (rw c.is_ascii-ascii.ensures at here) in
          IsAscii-more bytes n c.loop-n-test.true (i.ascii before) below;
    }
