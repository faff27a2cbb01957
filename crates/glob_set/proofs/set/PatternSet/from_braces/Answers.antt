use Rattle.std.proofs.Common.{map, sym, ap, subst}
use Rattle.glob_set.specs.BraceSets.{AreAlternativesOf}
use Rattle.glob_set.specs.Sets.{Set}
use Rattle.glob_set.proofs.BraceSetLemmas.{refuses_texts_memory, AnyMatch-alternatives}
use Rattle.glob_set.proofs.set.PatternSet.from_braces.Goals as goal

pub returns-in_err-new-clause-refused : goal.returns-in_err-new-clause-refused
returns-in_err-new-clause-refused g c = refuses_texts_memory _ _ c.from_residual-in_err-new.ensures.1

pub returns-clause-matches : goal.returns-clause-matches
returns-clause-matches g c =
    λ text. AnyMatch-alternatives c.args.options text _ _
    (subst (AreAlternativesOf (map (λ t. t.now) c.args.texts.now))
    (sym (ap (λ (s : Set). s.patterns) c.in_ok-new.ensures)) c.in_ok-patterns.ensures.patterns)
