use Rattle.std.proofs.Common.{◌∙◌, chars, sym, subst}
use Rattle.std.proofs.lemmas.Bool.{false≢true}
use Rattle.glob_pattern.specs.Matching.Texts.{TokensMatch}
use Rattle.glob_pattern.proofs.pattern.compiled.Compiled.matches.Goals as goal

pub returns-then-reject-clause-answer : goal.returns-then-reject-clause-answer
returns-then-reject-clause-answer g c =
    let read = c.as_slice-tokens.ensures.value ∙ c.self.view_is in (
      λ t. absurd (false≢true t),
      λ m. absurd (c.reject.ensures c.if-reject.true (subst (λ ts. TokensMatch c.args.options ts (chars c.args.text.now)) (sym read) m)),
    )
