use Rattle.std.proofs.Common.{refl, arith}
use Rattle.glob_set.proofs.KindLemmas.{kinds_grow, lengths_more}
use Rattle.glob_set.proofs.key.Kinds.add.Goals as goal

pub returns-in-Some-Component-clause-kept : goal.returns-in-Some-Component-clause-kept
returns-in-Some-Component-clause-kept c = kinds_grow _ _ (λ _. refl) (λ _ is. is) (λ _ is. is) (omega arith)

pub returns-in-Some-Beginning-clause-kept : goal.returns-in-Some-Beginning-clause-kept
returns-in-Some-Beginning-clause-kept c = kinds_grow _ _ (λ _. refl) (lengths_more _ _) (λ _ is. is) (omega arith)

pub returns-in-Some-Ending-clause-kept : goal.returns-in-Some-Ending-clause-kept
returns-in-Some-Ending-clause-kept c =
    kinds_grow _ _ (λ is. is) (λ _ is. is) (lengths_more _ _) (omega (arith, c.max-self.ensures))

pub returns-in-Some-Extension-clause-kept : goal.returns-in-Some-Extension-clause-kept
returns-in-Some-Extension-clause-kept c = kinds_grow _ _ (λ is. is) (λ _ is. is) (λ _ is. is)
    (omega (arith, c.max-self-in-Some-Extension.ensures))

pub returns-in-None-clause-kept : goal.returns-in-None-clause-kept
returns-in-None-clause-kept c = kinds_grow _ _ (λ is. is) (λ _ is. is) (λ _ is. is) (omega arith)
