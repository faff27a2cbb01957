-- The lexemes of a text, character by character.
use Rattle.std.proofs.Common.{◌≡◌, ℕ, ◌+◌, ◌<◌, ◌≤◌, List, [], ◌∷◌, ◌++◌, length, get_or, drop, refl, sym, ap, ◌∙◌, append_assoc}
use Rattle.std.proofs.lemmas.List.{append-nil, drop_more, drop_all}
use Rattle.glob_text.specs.Text.{Text}
use Rattle.glob_set.specs.declared.braces.lexemes.Lexeme.{Lexeme}
use Rattle.glob_set.specs.Braces.{end_at, lexeme_at, lexemes, lexemes_from}

pub lexemes_start : (text : Text) → lexemes_from text 0 0 text ≡ lexemes text
unfolding lexemes
lexemes_start text = refl

-- one character more
pub lexemes_more : (text : Text) (p e c f : ℕ) (found new : List Lexeme) (x : Lexeme) → p < length text → c ≡ get_or text p c
    → f ≡ end_at text p e → x ≡ lexeme_at p f c → new ≡ found ++ x ∷ []
    → found ++ lexemes_from text p e (drop p text) ≡ lexemes text
    → new ++ lexemes_from text (p + 1) f (drop (p + 1) text) ≡ lexemes text
lexemes_more text p e c f found new x below c_is f_is x_is new_is so_far =
    let rest = drop (p + 1) text in
    let split : drop p text ≡ c ∷ rest = drop_more text p c below ∙ ap (λ z. z ∷ rest) (sym c_is) in
    ap (λ z. z ++ lexemes_from text (p + 1) f rest) new_is
    ∙ append_assoc found (x ∷ []) (lexemes_from text (p + 1) f rest)
    ∙ ap (λ z. found ++ z ∷ lexemes_from text (p + 1) f rest) x_is
    ∙ ap (λ k. found ++ lexeme_at p k c ∷ lexemes_from text (p + 1) k rest) f_is
    ∙ sym (ap (λ z. found ++ lexemes_from text p e z) split)
    ∙ so_far

-- all characters
pub lexemes_all : (text : Text) (p e : ℕ) (found : List Lexeme) → length text ≤ p
    → found ++ lexemes_from text p e (drop p text) ≡ lexemes text → found ≡ lexemes text
lexemes_all text p e found end so_far =
    sym (append-nil found) ∙ sym (ap (λ z. found ++ lexemes_from text p e z) (drop_all p text end)) ∙ so_far
