use Rattle.std.proofs.Common.{◌≡◌, ◌+◌, ◌-◌, take, drop, sym, ap, ◌∙◌, length-drop, arith}
use lib.Seq.{paste}
use Rattle.std.proofs.lemmas.List.{drop-take}
use Rattle.std.proofs.lemmas.List.Edits.{take-paste}
use Rattle.glob_lines.proofs.copying.move_front.Goals as goal

pub returns-clause-moved : goal.returns-clause-moved
returns-clause-moved g c =
    let all = c.args.bytes.now.items in
    let start = c.args.start in
    let n = c.args.end - start in
    let whole : start + n ≡ c.args.end = omega (arith, c.requires.order) in
    let same : n ≡ 0 + n = omega arith in
    let first : take n (paste all 0 (drop start all) n) ≡ take n (drop start all) = ap
    (λ k. take k (paste all 0 (drop start all) n)) same ∙ take-paste all 0 (drop start all) n (omega arith)
    (omega (arith, length-drop start all, c.requires.within)) in
    ap (take n) c.copy_within.ensures.items ∙ first ∙ sym (drop-take start n all) ∙ ap (λ m. drop start (take m all)) whole
