use Rattle.std.proofs.Common.{◌∙◌, sym, subst, chars}
use Rattle.std.proofs.lemmas.Bool.{false≢true}
use Rattle.std.proofs.lemmas.Str.{IsUtf8-from_is_utf8}
use Rattle.glob_pattern.specs.Grammar.Units.{HasTokens}
use Rattle.glob_pattern.specs.Matching.Texts.{TokensMatch}
use Rattle.glob_pattern.proofs.MatchingLemmas.Needles.{IsNeedle-within, ContainsFolded-from_needle}
use Rattle.glob_pattern.proofs.MatchingLemmas.Stripped.{match-needs_ends}
use Rattle.glob_pattern.proofs.pattern.compiled.Compiled.may_match.Goals as goal

pub returns-then-have_literals : goal.returns-then-have_literals
returns-then-have_literals g c = λ utf8 match.
    let tokens = c.self.inside.tokens.items in
    let ends = c.self.inside.ends in
    let inside = IsNeedle-within tokens c.self.inside.needle ends.lead _ c.self.invariant.inside in
    c.may_be_in.ensures (ContainsFolded-from_needle c.args.options tokens c.self.inside.needle c.args.bytes.now inside
    (IsUtf8-from_is_utf8 c.args.bytes.now utf8)
    (subst (λ ts. TokensMatch c.args.options ts (chars c.args.bytes.now)) (sym c.self.view_is) match))

pub returns-else-have_literals : goal.returns-else-have_literals
returns-else-have_literals g c = λ utf8 match.
    absurd (match-needs_ends c.self.inside.tokens.items c.self.inside.ends c.self.invariant.at_ends c.args.pattern.now
    c.utf8.pattern (subst (HasTokens (chars c.args.pattern.now)) (sym c.self.view_is) c.requires)
    c.args.options c.args.bytes.now (IsUtf8-from_is_utf8 c.args.bytes.now utf8) (λ has. false≢true
    (sym c.if-have_literals.false ∙ c.have_literals.ensures.1 has))
    (subst (λ ts. TokensMatch c.args.options ts (chars c.args.bytes.now)) (sym c.self.view_is) match))
