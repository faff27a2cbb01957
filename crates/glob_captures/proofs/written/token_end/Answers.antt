use Rattle.std.proofs.Common.{inl, inr, refl, sym, subst, arith}
use Rattle.glob_pattern.specs.declared.pattern.tokens.TokenKind.TheVariants as kind
use Rattle.glob_captures.specs.Private.Written.{IsTokenEnd}
use Rattle.glob_captures.proofs.WritingLemmas.{IsTokenEnd-plain}
use Rattle.glob_captures.proofs.written.token_end.Goals as goal

pub returns-in-Literal-clause-end : goal.returns-in-Literal-clause-end
returns-in-Literal-clause-end c =
    elim c.in-Literal.is [
      | inl literal ↦
          subst (λ k. IsTokenEnd c.args.text.now c.args.place k c.min.result) (sym literal)
          (IsTokenEnd-plain c.args.text.now c.args.place kind.Literal c.min.result refl (λ m within end. omega (arith, c.min.ensures, end)))
      | inr others ↦
          elim others [
            | inl any ↦
                subst (λ k. IsTokenEnd c.args.text.now c.args.place k c.min.result) (sym any)
                (IsTokenEnd-plain c.args.text.now c.args.place kind.AnyChar c.min.result refl (λ m within end. omega
                (arith, c.min.ensures, end)))
            | inr sequence ↦
                subst (λ k. IsTokenEnd c.args.text.now c.args.place k c.min.result) (sym sequence)
                (IsTokenEnd-plain c.args.text.now c.args.place kind.AnySequence c.min.result refl
                (λ m within end. omega (arith, c.min.ensures, end)))
          ]
    ]

pub returns-in-OneOf-clause-end : goal.returns-in-OneOf-clause-end
returns-in-OneOf-clause-end c =
    subst (λ k. IsTokenEnd c.args.text.now c.args.place k c.bracket_end.result) (sym c.in-OneOf.is)
    (IsTokenEnd-plain c.args.text.now c.args.place kind.OneOf c.bracket_end.result refl (λ m within end. sym
    (c.bracket_end.ensures.closes m end)))

pub returns-in-NoneOf-clause-end : goal.returns-in-NoneOf-clause-end
returns-in-NoneOf-clause-end c =
    subst (λ k. IsTokenEnd c.args.text.now c.args.place k c.bracket_end-in-NoneOf.result) (sym c.in-NoneOf.is)
    (IsTokenEnd-plain c.args.text.now c.args.place kind.NoneOf c.bracket_end-in-NoneOf.result refl (λ m within end. sym
    (c.bracket_end-in-NoneOf.ensures.closes m end)))
