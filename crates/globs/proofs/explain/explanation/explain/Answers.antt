use Rattle.std.proofs.Common.{◌∙◌, ◌∷◌, ◌++◌, ap, string_bytes}
use Rattle.globs.specs.Explain.Outcomes.{AreLines}
use Rattle.globs.specs.Explain.Verdict.{verdict_words}
use Rattle.globs.proofs.explain.explanation.explain.Goals as goal

pub returns-clause-lines : goal.returns-clause-lines
unfolding AreLines
returns-clause-lines g c =
    let reasons = string_bytes c.in_ok-reasons.reasons in
    let hints = string_bytes c.in_ok-hints.hints in
    let offer = string_bytes c.in_ok-offer.offer in
    let deeper = string_bytes c.in_ok-deeper.deeper in (
      reasons,
      hints,
      offer,
      deeper,
      (λ none. c.in_ok-hints.ensures (ap (λ v. v.is_match) c.in_ok-verdict.ensures ∙ none)),
      c.in_ok-offer.ensures,
      c.in_ok-deeper.ensures,
      c.in_ok-format.ensures.ok ∙ ap (λ v. verdict_words v ++ (10 ∷ (reasons ++ (hints ++ (offer ++ deeper))))) c.in_ok-verdict.ensures,
    )
