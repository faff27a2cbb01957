-- What expanding a text returns: its alternatives, or its refusal.
use Rattle.std.proofs.Common.{◌≡◌, ℕ, ◌≤◌, ◌↔◌, true, List, length, map, Result, Ok, Err, IfErr, IsErrAnd, sym, ap, subst, ◌∙◌, arith}
use Rattle.std.proofs.lemmas.List.{length-map}
use Rattle.glob_text.specs.Text.{Text}
use Rattle.glob_set.specs.declared.braces.lexemes.Lexeme.{Lexeme}
use Rattle.glob_set.specs.declared.braces.error.BraceRefusal.{BraceRefusal}
use Rattle.glob_set.specs.declared.braces.error.BraceRefusal.TheVariants.{Syntax, Memory}
use Rattle.glob_set.specs.Braces.{lexemes, HasAlternatives, AreAlternatives, IsAlternative, IsAmong, RefusesLexemes, RefusesBraces}
use Rattle.glob_set.specs.Private.BraceCounts.{CountsAlternatives}
use Rattle.glob_set.specs.Private.BraceSteps.{after_lexemes, start_reading}
use Rattle.glob_set.proofs.BraceReadings.{alternatives_read, alternatives_unique}

-- a failed allocation is a refusal of any text
pub refuses_memory : {T : Type 0} (r : Result T BraceRefusal) (text : Text) → IsErrAnd r (λ e. e ≡ Memory) → IfErr r (RefusesBraces text)
unfolding RefusesBraces
refuses_memory (Ok x) text known = tt
refuses_memory (Err (Syntax e)) text known = absurd (cc)
refuses_memory (Err Memory) text known = tt

-- a refusal of its lexemes is a refusal of the text
pub refuses_text : (text : Text) (ls items : List Lexeme) (refusal : BraceRefusal) → ls ≡ items → items ≡ lexemes text
    → RefusesLexemes ls refusal → RefusesBraces text refusal
unfolding RefusesBraces
refuses_text text ls items refusal same is refused = subst (λ z. RefusesLexemes z refusal) (same ∙ is) refused

-- what its lexemes give is the alternatives of the text
pub are_alternatives : (text : Text) (ls items : List Lexeme) (n : ℕ) (found : List Text) → ls ≡ items → items ≡ lexemes text
    → CountsAlternatives ls n → found ≡ (after_lexemes start_reading ls).texts → AreAlternatives text found
unfolding AreAlternatives
are_alternatives text ls items n found same is counted read =
    subst (λ z. HasAlternatives true z found) (same ∙ is)
    (subst (HasAlternatives true ls) (sym (read ∙ alternatives_read ls counted.0 counted.1)) counted.1)

-- there are as many as were counted
pub as_few : {X : Type 0} (f : X → Text) (items : List X) (ls : List Lexeme) (n : ℕ) → CountsAlternatives ls n → n ≤ 1000
    → map f items ≡ (after_lexemes start_reading ls).texts → length items ≤ 1000
as_few f items ls n counted few read =
    let long : length (map f items) ≡ length items = length-map items f in
    let same : length (map f items) ≡ length counted.0 = ap length (read ∙ alternatives_read ls counted.0 counted.1) in
    omega (arith, long, same, counted.2.0, few)

-- each alternative is among those that are found, and no other text is
pub each_is_found : (text : Text) (found : List Text) (alternative : Text) → AreAlternatives text found
    → IsAlternative text alternative ↔ IsAmong found alternative
unfolding AreAlternatives IsAlternative
each_is_found text found alternative are = (
  λ is. subst (λ z. IsAmong z alternative) (alternatives_unique (lexemes text) is.0 found is.1 are) is.2,
  λ among. (found, are, among),
)
