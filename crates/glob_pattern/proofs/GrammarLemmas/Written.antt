-- Literals at the ends of a pattern's tokens are the characters at the ends of its text.
use Rattle.std.proofs.Common.{◌≡◌, ℕ, ◌+◌, true, ◌&&◌, List, [], ◌∷◌, ◌++◌, length, map, take, drop, refl, sym, ap, subst, ◌∙◌, arith}
use Rattle.std.proofs.lemmas.Bool.{cond_both, and_parts, false≢true}
use Rattle.std.proofs.lemmas.List.{append-nil, length-append, take-append-drop, drop_more, drop_all}
use Rattle.glob_text.specs.Text.{Text}
use Rattle.glob_pattern.specs.Grammar.Tokens.{Token, is_recursive, begins_recursive, tokens_of_units}
use Rattle.glob_pattern.specs.Grammar.Units.{UnitsBetween, HasTokens}
use Rattle.glob_pattern.specs.declared.token.Token.TheVariants.{Literal}
use Rattle.glob_pattern.proofs.GrammarLemmas.Folding.{folded_some}

-- a first `**` stays
folded-begins : (units : List Token) → begins_recursive units ≡ true → begins_recursive (tokens_of_units units) ≡ true
folded-begins [] deep = absurd (false≢true deep)
folded-begins (t ∷ ts) deep =
    cond_both (is_recursive t && begins_recursive ts) (tokens_of_units ts) (t ∷ tokens_of_units ts) (λ xs. begins_recursive xs ≡ true)
    (λ both. folded-begins ts (and_parts (is_recursive t) (begins_recursive ts) both).1) (λ _. deep)

-- no tokens come only from no units
units-none : (units : List Token) → tokens_of_units units ≡ [] → units ≡ []
units-none [] none = refl
units-none (t ∷ ts) none = absurd (omega (arith, folded_some t ts, ap length none))

-- first literals are first units, and the only units if there are no other tokens
units-first : (plain : Text) (units more : List Token) → tokens_of_units units ≡ map Literal plain ++ more
    → (others : List Token) × (units ≡ map Literal plain ++ others) × (more ≡ [] → others ≡ [])
units-first [] units more e = (units, refl, λ none. units-none units (e ∙ none))
units-first (c ∷ cs) [] more e = absurd (omega (arith, ap length e))
units-first (c ∷ cs) (t ∷ ts) more e =
    cond_both (is_recursive t && begins_recursive ts) (tokens_of_units ts) (t ∷ tokens_of_units ts)
    (λ xs. xs ≡ Literal c ∷ (map Literal cs ++ more) → (others : List Token) × (t ∷ ts ≡ Literal c ∷
    (map Literal cs ++ others)) × (more ≡ [] → others ≡ []))
    (λ both is. absurd (false≢true (sym (ap begins_recursive is) ∙ folded-begins ts (and_parts (is_recursive t)
    (begins_recursive ts) both).1)))
    (λ _ is.
    let first : t ≡ Literal c = cc in
    let rest : tokens_of_units ts ≡ map Literal cs ++ more = cc in
    let (others, split, none) = units-first cs ts more rest in
    (others, cc, none))
    e

-- last literals are last units
units-last : (plain : Text) (units front : List Token) → tokens_of_units units ≡ front ++ map Literal plain
    → (others : List Token) × (units ≡ others ++ map Literal plain)
units-last [] units front e = (units, sym (append-nil units))
units-last (c ∷ cs) [] front e = absurd (omega (arith, ap length e, length-append front (map Literal (c ∷ cs))))
units-last (c ∷ cs) (t ∷ ts) [] e =
    let (others, split, none) = units-first (c ∷ cs) (t ∷ ts) [] (e ∙ sym (append-nil (map Literal (c ∷ cs)))) in
    ([], split ∙ ap (λ us. map Literal (c ∷ cs) ++ us) (none refl) ∙ append-nil (map Literal (c ∷ cs)))
units-last (c ∷ cs) (t ∷ ts) (f ∷ fs) e =
    cond_both (is_recursive t && begins_recursive ts) (tokens_of_units ts) (t ∷ tokens_of_units ts)
    (λ xs. xs ≡ f ∷ (fs ++ map Literal (c ∷ cs)) → (others : List Token) × (t ∷ ts ≡ others ++ map Literal (c ∷ cs)))
    (λ _ is. let (others, split) = units-last (c ∷ cs) ts (f ∷ fs) is in (t ∷ others, ap (λ us. t ∷ us) split))
    (λ _ is.
    let rest : tokens_of_units ts ≡ fs ++ map Literal (c ∷ cs) = cc in
    let (others, split) = units-last (c ∷ cs) ts fs rest in
    (t ∷ others, ap (λ us. t ∷ us) split))
    e

-- units one after another, in two parts
UnitsBetween-parts : (text : Text) (f : ℕ) (first last : List Token) (e : ℕ) → UnitsBetween text f (first ++ last) e →
    (m : ℕ) × UnitsBetween text f first m × UnitsBetween text m last e
UnitsBetween-parts text f [] last e units = (f, refl, units)
UnitsBetween-parts text f (t ∷ ts) last e (k, unit, rest) =
    let (m, before, after) = UnitsBetween-parts text k ts last e rest in (m, (k, unit, before), after)

-- units of literals are these characters
literals-between : (text plain : Text) (f e : ℕ) → UnitsBetween text f (map Literal plain) e → drop f text ≡ plain ++ drop e text
literals-between text [] f e same = ap (λ k. drop k text) same
literals-between text (c ∷ cs) f e (m, unit, rest) =
    let here : drop f text ≡ c ∷ drop (f + 1) text = drop_more text f 0 unit.0.0 ∙ ap (λ d. d ∷ drop (f + 1) text) unit.0.1 in
    here ∙ ap (λ k. c ∷ drop k text) (sym unit.4) ∙ ap (λ xs. c ∷ xs) (literals-between text cs m e rest)

-- so the text begins with first literals
pub text-begins : (text plain : Text) (tokens more : List Token) → HasTokens text tokens → tokens ≡ map Literal plain
    ++ more → (rest : Text) × (text ≡ plain ++ rest)
text-begins text plain tokens more (units, has, folded) begins =
    let (others, split, none) = units-first plain units more (sym folded ∙ begins) in
    let (m, first, last) = UnitsBetween-parts text 0 (map Literal plain) others (length text)
    (subst (λ us. UnitsBetween text 0 us (length text)) split has) in
    (drop m text, literals-between text plain 0 m first)

-- and ends with last ones
pub text-ends : (text plain : Text) (tokens front : List Token) → HasTokens text tokens → tokens ≡ front ++ map Literal
    plain → (rest : Text) × (text ≡ rest ++ plain)
text-ends text plain tokens front (units, has, folded) ends =
    let (others, split) = units-last plain units front (sym folded ∙ ends) in
    let (m, first, last) = UnitsBetween-parts text 0 others (map Literal plain) (length text)
    (subst (λ us. UnitsBetween text 0 us (length text)) split has) in
    let none : drop (length text) text ≡ [] = drop_all (length text) text (omega arith) in (
      take m text,
      sym (take-append-drop m text) ∙ ap (λ xs. take m text ++ xs) (literals-between text plain m
          (length text) last ∙ ap (λ xs. plain ++ xs) none ∙ append-nil plain),
    )
