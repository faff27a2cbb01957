use Rattle.std.proofs.Common.{◌≡◌, ◌≢◌, ◌∷◌, ℕ, List, Option, None, Some, Bor, MatchOption, lit<}
use Rattle.std.proofs.lemmas.Option.{MatchOption-at_none, MatchOption-at_some}
use Rattle.std.proofs.lemmas.Str.Pattern.{strip_prefix_char}
use Rattle.globs.proofs.explain.hints.without_here.Goals as goal

after_dot : (text rest : List ℕ) (r : Option (Bor (List ℕ))) → text ≡ 46 ∷ rest
    → MatchOption r ((more : List ℕ) → rest ≢ 47 ∷ more) (λ x. rest ≡ 47 ∷ x.now)
    → MatchOption r ((more : List ℕ) → text ≢ 46 ∷ 47 ∷ more) (λ x. text ≡ 46 ∷ 47 ∷ x.now)
after_dot text rest None dot none = λ more same. none more cc
after_dot text rest (Some x) dot is = cc

pub returns-in_err-strip_prefix : goal.returns-in_err-strip_prefix
returns-in_err-strip_prefix c =
    let stripped = strip_prefix_char 46 c.args.text.now c.strip_prefix.result c.strip_prefix.ensures.cases (lit< tt) in
    rw c.from_residual.ensures (λ rest. MatchOption-at_none _ _ c.in_err-strip_prefix.was stripped (47 ∷ rest))

pub returns : goal.returns
returns c =
    let stripped = strip_prefix_char 46 c.args.text.now c.strip_prefix.result c.strip_prefix.ensures.cases (lit< tt) in
    let rest = c.in_ok-strip_prefix.field-0 in
    let dot = MatchOption-at_some _ _ rest c.in_ok-strip_prefix.was stripped in
    after_dot c.args.text.now rest.now c.strip_prefix-2.result dot
    (strip_prefix_char 47 rest.now c.strip_prefix-2.result c.strip_prefix-2.ensures.cases (lit< tt))
