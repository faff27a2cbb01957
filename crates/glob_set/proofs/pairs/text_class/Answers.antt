use Rattle.std.proofs.Common.{◌≡◌, ◌+◌, ◌-◌, length, get_or, sym, ap, ◌∙◌, arith}
use Rattle.glob_set.specs.Private.Pairs.{pair_class}
use Rattle.glob_set.proofs.PairLemmas.{class_at_end}
use Rattle.glob_set.proofs.pairs.text_class.Goals as goal

pub returns-in-len2-up-clause-class : goal.returns-in-len2-up-clause-class
returns-in-len2-up-clause-class c =
    let bytes = c.args.bytes.now in
    let next : length bytes - 2 + 1 ≡ length bytes - 1 = omega (arith, c.in-len2-up.len_at_least) in
    c.pair_class-in-len2-up.ensures.class
    ∙ sym (class_at_end 0 0 bytes (length bytes - 2) (omega (arith, c.in-len2-up.len_at_least))
    ∙ ap (λ k. pair_class (get_or bytes (length bytes - 2) 0) (get_or bytes k 0)) next)
