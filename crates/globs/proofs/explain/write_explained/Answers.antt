use Rattle.std.proofs.Common.{◌≡◌, ◌≢◌, ◌⊎◌, ◌∙◌, ℕ, List, Option, Bool, true, false, inl, inr, map, string_bytes, sym, subst, arith}
use Rattle.glob_console.specs.Outcomes.{WritesText}
use Rattle.glob_pattern.specs.declared.options.MatchOptions.{MatchOptions}
use Rattle.globs.specs.Explain.Outcomes.{AreLines, Explains}
use Rattle.globs.specs.Explain.Verdict.{is_taken}
use Rattle.globs.proofs.explain.write_explained.Goals.{then-explanation, else-explanation}
use Rattle.globs.proofs.explain.write_explained.Goals as goal

module _ (o : MatchOptions) (ps : List (List ℕ)) (t lines : List ℕ) (old new : Option (List ℕ)) where
  -- the lines were written, and the status is the answer's
  explains_written : (is : Bool) (status found : ℕ) → is ≡ is_taken o ps t → AreLines o ps t lines
      → status ≡ 0 → WritesText lines old new status → ((is ≡ true) × (found ≡ 0)) ⊎ ((is ≡ false) × (found ≡ 1)) →
      Explains o ps t old new found
  unfolding Explains WritesText
  explains_written is status found answer are zero (inl written) (inl matched) =
      ((λ none. sym answer ∙ matched.0), (λ one. absurd (omega (arith, matched.1, one))), λ other. (lines, are, written.1))
  explains_written is status found answer are zero (inl written) (inr lost) =
      ((λ none. absurd (omega (arith, lost.1, none))), (λ one. sym answer ∙ lost.0), λ other. (lines, are, written.1))
  explains_written is status found answer are zero (inr some) found-is = absurd (omega (arith, zero, some.0))

  -- the lines were not written
  explains_fault : (status : ℕ) → status ≢ 0 → WritesText lines old new status → Explains o ps t old new status
  unfolding Explains WritesText
  explains_fault status fault (inl written) = absurd (fault written.0)
  explains_fault status fault (inr some) =
      ((λ none. absurd (fault none)), (λ one. absurd (omega (arith, one, some.0))), λ other. absurd (other some.0))

pub returns-in-0-clause-explained : goal.returns-in-0-clause-explained
returns-in-0-clause-explained g c =
    let explanation = c.in-Ok.explanation in
    let old = g.W.Write.contents c.args.output.now in
    let new = g.W.Write.contents c.write_text.new.output in
    explains_written c.args.question.options (map (λ p. p.now) c.args.question.patterns.now) c.args.question.text.now
    (string_bytes explanation.lines) old new
    explanation.is_match c.write_text.result c.if-explanation.found c.in-Ok.ensures.answer c.in-Ok.ensures.lines c.in-0.is
    (subst (λ text. WritesText text old new c.write_text.result) c.as_str.ensures.value c.write_text.ensures.written)
    (elim c.if-explanation.branch [
      | then-explanation w ↦ inl (w.if-explanation.true, w.found-is)
      | else-explanation w ↦ inr (w.if-explanation.false, w.found-is)
    ])

pub returns-in-Ok-clause-explained : goal.returns-in-Ok-clause-explained
returns-in-Ok-clause-explained g c =
    explains_fault c.args.question.options (map (λ p. p.now) c.args.question.patterns.now) c.args.question.text.now c.as_str.result.now
    (g.W.Write.contents c.args.output.now) (g.W.Write.contents c.write_text.new.output)
    c.write_text.result (omega arith) c.write_text.ensures.written
