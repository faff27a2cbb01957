use Rattle.std.proofs.Common.{◌≡◌, ◌≢◌, ◌⊎◌, ◌∷◌, ℕ, List, Option, None, Some, Bor, MatchOption, arith, ap, get_or, inl, inr, lit<}
use Rattle.std.proofs.lemmas.Option.{MatchOption-at_none, MatchOption-at_some}
use Rattle.std.proofs.lemmas.Str.Pattern.{strip_prefix_char}
use Rattle.globs.proofs.find.leads.after_dots.Goals as goal

-- what follows a `./` or a `../`, if the text begins with either
abbrev AfterDots : (text : List ℕ) → Option (Bor (List ℕ)) → Type 0
AfterDots text r =
    MatchOption r ((after : List ℕ) → (text ≢ 46 ∷ 47 ∷ after) × (text ≢ 46 ∷ 46 ∷ 47 ∷ after))
    (λ after. (text ≡ 46 ∷ 47 ∷ after.now) ⊎ (text ≡ 46 ∷ 46 ∷ 47 ∷ after.now))

-- a dot is not a slash
not_both : (one two : List ℕ) → 46 ∷ 46 ∷ one ≢ 46 ∷ 47 ∷ two
not_both one two same = absurd (omega (arith, ap (λ l. get_or l 1 0) same))

after_two : (text rest up : List ℕ) (r : Option (Bor (List ℕ))) → text ≡ 46 ∷ rest → rest ≡ 46 ∷ up
    → MatchOption r ((more : List ℕ) → up ≢ 47 ∷ more) (λ x. up ≡ 47 ∷ x.now) → AfterDots text r
after_two text rest up None one two none = λ after. ((λ same. not_both up after cc), (λ same. none after cc))
after_two text rest up (Some x) one two is = inr cc

after_one : (text rest : List ℕ) (r : Option (Bor (List ℕ))) → text ≡ 46 ∷ rest → ((up : List ℕ) → rest ≢ 46 ∷ up)
    → MatchOption r ((more : List ℕ) → rest ≢ 47 ∷ more) (λ x. rest ≡ 47 ∷ x.now) → AfterDots text r
after_one text rest None one no_up none = λ after. ((λ same. none after cc), (λ same. no_up (47 ∷ after) cc))
after_one text rest (Some x) one no_up is = inl cc

pub returns-in_err-rest : goal.returns-in_err-rest
returns-in_err-rest c =
    let stripped = strip_prefix_char 46 c.args.text.now c.strip_prefix.result c.strip_prefix.ensures.cases (lit< tt) in
    rw c.from_residual.ensures (λ after. (
      MatchOption-at_none _ _ c.in_err-rest.was stripped (47 ∷ after),
      MatchOption-at_none _ _ c.in_err-rest.was stripped (46 ∷ 47 ∷ after),
    ))

pub returns-in-Some : goal.returns-in-Some
returns-in-Some c =
    let rest = c.in_ok-rest.rest in
    let one = MatchOption-at_some _ _ rest c.in_ok-rest.was (strip_prefix_char 46 c.args.text.now c.strip_prefix.result
    c.strip_prefix.ensures.cases (lit< tt)) in
    let two = MatchOption-at_some _ _ c.in-Some.up c.in-Some.is
    (strip_prefix_char 46 rest.now c.strip_prefix-2.result c.strip_prefix-2.ensures.cases (lit< tt)) in
    after_two c.args.text.now rest.now c.in-Some.up.now c.strip_prefix-in-Some.result one two
    (strip_prefix_char 47 c.in-Some.up.now c.strip_prefix-in-Some.result c.strip_prefix-in-Some.ensures.cases (lit< tt))

pub returns-in-None : goal.returns-in-None
returns-in-None c =
    let rest = c.in_ok-rest.rest in
    let one = MatchOption-at_some _ _ rest c.in_ok-rest.was (strip_prefix_char 46 c.args.text.now c.strip_prefix.result
    c.strip_prefix.ensures.cases (lit< tt)) in
    let none = MatchOption-at_none _ _ c.in-None.is (strip_prefix_char 46 rest.now c.strip_prefix-2.result
    c.strip_prefix-2.ensures.cases (lit< tt)) in
    after_one c.args.text.now rest.now c.strip_prefix-in-None.result one none
    (strip_prefix_char 47 rest.now c.strip_prefix-in-None.result c.strip_prefix-in-None.ensures.cases (lit< tt))
