use Rattle.std.proofs.Common.{◌+◌, bit_or, drop, get_or, refl, sym, ap, ◌∙◌, arith}
use Rattle.std.specs.Int.Bits.{or_zero_r}
use Rattle.std.proofs.lemmas.List.{drop_all}
use Rattle.glob_set.specs.Private.Pairs.{class_bit, pair_bits}
use Rattle.glob_set.proofs.PairLemmas.{step_bits}
use Rattle.glob_set.proofs.pairs.text_bits.Goals as goal

pub loop-byte-preserved : goal.loop-byte-preserved
loop-byte-preserved c =
    let l = c.loop-byte in
    let next = get_or c.args.bytes.now l.byte-index 0 in
    ap (λ b. bit_or (bit_or l.bits b) (pair_bits next (drop (l.byte-index + 1) c.args.bytes.now)))
    (c.class_bit-bits.ensures ∙ ap class_bit c.pair_class.ensures.class)
    ∙ step_bits l.bits l.last next c.args.bytes.now l.byte-index (omega arith) refl ∙ l.invariant

pub returns : goal.returns
returns c =
    let l = c.loop-byte in
    sym (or_zero_r l.bits)
    ∙ sym (ap (λ bs. bit_or l.bits (pair_bits l.last bs)) (drop_all l.byte-index c.args.bytes.now (omega arith)))
    ∙ l.invariant
