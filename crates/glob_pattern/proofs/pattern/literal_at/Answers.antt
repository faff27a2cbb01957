use Rattle.std.proofs.Common.{◌≡◌, Option, None, Some, IfNone, IfSome, chars, subst, get_or}
use Rattle.glob_pattern.specs.Matching.Literals.{HasLiteral}
use Rattle.glob_pattern.specs.declared.token.Token.TheVariants.{Literal, AnyChar}
use Rattle.glob_pattern.proofs.GrammarLemmas.Accepted.{one_reading}
use Rattle.glob_pattern.proofs.pattern.literal_at.Goals as goal

IfSome-map : {T : Type 0} {P Q : T → Type 0} (x : Option T) → ((t : T) → P t → Q t) → IfSome x P → IfSome x Q
IfSome-map None p h = h
IfSome-map (Some t) p h = p t h

IfNone-map : {T : Type 0} {P Q : Type 0} (x : Option T) → (P → Q) → IfNone x P → IfNone x Q
IfNone-map None p h = p h
IfNone-map (Some t) p h = h

pub returns-clause-literal : goal.returns-clause-literal
unfolding HasLiteral
returns-clause-literal g c =
    let read = rw c.pattern.view_is at c.pattern.invariant in
    IfSome-map c.literal_at.result
    (λ x is tokens has. subst (λ ts. get_or ts c.args.number AnyChar ≡ Literal x)
    (one_reading (chars c.args.pattern.now) c.pattern.inside.compiled tokens read has) is)
    c.literal_at.ensures.literal

pub returns-clause-none : goal.returns-clause-none
unfolding HasLiteral
returns-clause-none g c =
    let read = rw c.pattern.view_is at c.pattern.invariant in
    IfNone-map c.literal_at.result (λ none x is. none x (is c.pattern.inside.compiled read)) c.literal_at.ensures.none
