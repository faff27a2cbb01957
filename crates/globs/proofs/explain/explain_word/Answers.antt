use Rattle.std.proofs.Common.{◌≡◌, ◌∙◌, ap, inl, inr, map, string_bytes, subst, sym, ⊎_elim, chars}
use Rattle.glob_set.specs.Braces.{AreAlternatives}
use Rattle.globs.specs.Explain.Outcomes.{ExplainsWord}
use Rattle.globs.proofs.explain.explain_word.Goals as goal

pub returns-clause-explained : goal.returns-clause-explained
unfolding ExplainsWord
returns-clause-explained g c =
    let same : map (λ p. p.now) c.as_slice-2.result.now ≡ map (λ s. string_bytes s) c.in-Ok.expanded.items =
    ap (map (λ p. p.now)) c.as_slice-2.ensures.value ∙ (c.in-Ok-as_strs.ensures ∙
    ap (map (λ s. string_bytes s)) c.as_slice.ensures.value) in
    ⊎_elim inl
    (λ explained. inr (
      map (λ p. p.now) c.as_slice-2.result.now,
      subst (AreAlternatives (chars c.args.word.now)) (sym same) c.in-Ok.ensures.alternatives,
      explained.0,
      explained.1,
    ))
    c.answer.ensures.explained
