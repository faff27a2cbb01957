use Rattle.std.proofs.Common.{◌≡◌, ◌+◌, ◌≤◌, ◌∷◌, drop, refl, sym, ap, subst, ◌∙◌, arith}
use Rattle.std.proofs.lemmas.List.{drop_more}
use Rattle.glob_pattern.specs.Private.Needles.{IsNeedle}
use Rattle.glob_pattern.proofs.MatchingLemmas.Needles.{EndsIn, EndsIn-none, EndsIn-with}
use Rattle.glob_pattern.proofs.pattern.needle.Needle.of.Goals as goal
use Rattle.glob_pattern.proofs.pattern.needle.Needle.of.Goals.{in-Literal, in_default, then-needle-longest, else-needle-longest}

pub loop-token-init : goal.loop-token-init
loop-token-init g c =
    let none = EndsIn-none c.args.tokens.now 0 _ refl in
    record { few = omega arith; last = none; longest = none.0 }

pub loop-token-preserved : goal.loop-token-preserved
loop-token-preserved g c =
    let tokens = c.args.tokens.now in
    let i = c.loop-token.token-index in
    let needle = c.match-token.needle in
    let (few, last) : (needle.len ≤ 16) × EndsIn tokens (i + 1) needle = elim c.match-token.branch [
      | in-Literal w ↦
          let next : drop i tokens ≡ _ ∷ drop (i + 1) tokens = drop_more tokens i c.token-item.result (omega arith)
          ∙ ap (λ t. t ∷ drop (i + 1) tokens) (sym c.token-item.is ∙ w.in-Literal.is) in
          subst (λ n. (n.len ≤ 16) × EndsIn tokens (i + 1) n) (sym w.needle-is)
          (w.add.ensures.few, EndsIn-with tokens i w.in-Literal.c _ _ next c.loop-token.invariant.last w.add.ensures.bytes)
      | in_default w ↦ (omega (arith, ap (λ n. n.len) w.needle-is), EndsIn-none tokens (i + 1) needle (ap (λ n. n.len) w.needle-is))
    ] in
    record {
      few = few;
      last = last;
      longest = elim c.if-needle-longest.branch [
        | then-needle-longest w ↦ subst (IsNeedle tokens) (sym w.longest-is) last.0
        | else-needle-longest w ↦ subst (IsNeedle tokens) (sym w.longest-is) c.loop-token.invariant.longest
      ];
    }
