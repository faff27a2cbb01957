use Rattle.std.proofs.Common.{◌<◌, ◌^◌, arith, inr, ⊎_elim, sym, ◌∙◌}
use Rattle.std.proofs.lemmas.Bool.{false≢true}
use Rattle.std.specs.Int.{bit_not, w64}
use Rattle.glob_pattern.proofs.BitLemmas.SetBits.{IsBitSet-and, IsBitSet-not}
use Rattle.glob_pattern.proofs.matcher.shape_word.ShapeWord.ending.Goals as goal

pub returns-else-opens : goal.returns-else-opens
returns-else-opens c = λ j lt.
    let fits : c.args.self.recursive < 2 ^ 64 = omega arith in
    let and = IsBitSet-and c.args.took (bit_not w64 c.args.self.recursive) j in
    let not = IsBitSet-not c.args.self.recursive j fits lt in (
      λ h. ((and.0 h).0, inr (not.0 (and.0 h).1)),
      λ (t, free). and.1 (t, not.1 (⊎_elim (λ e. absurd (false≢true (sym c.if-opens.false ∙ e))) (λ f. f) free)),
    )
