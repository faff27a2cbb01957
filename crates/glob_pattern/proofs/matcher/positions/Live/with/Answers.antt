use Rattle.std.proofs.Common.{◌∙◌, inl, ⊎_elim, arith}
use Rattle.std.proofs.lemmas.Bool.{cases_eq}
use Rattle.glob_pattern.proofs.matcher.positions.Live.with.Goals as goal

pub returns-then-word-eq0 : goal.returns-then-word-eq0
returns-then-word-eq0 c = λ words lt at live. record {
  within = live.within;
  none = λ i below out. ⊎_elim
      (λ e. rw e (at ∙ c.if-word-eq0.true))
      (λ ne. live.none i (omega (arith, below, ne)) out)
      (cases_eq i c.args.n);
}

pub returns-else-word-eq0 : goal.returns-else-word-eq0
returns-else-word-eq0 c = λ words lt at live. record {
  within = omega (arith, lt, c.min.ensures);
  none = λ i below out. ⊎_elim
      (λ low. live.none i (omega (arith, low, c.min.ensures)) (inl (omega (arith, low, c.min.ensures))))
      (λ high. absurd (omega (arith, high, below)))
      out;
}
