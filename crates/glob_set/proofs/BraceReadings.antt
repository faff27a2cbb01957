-- Reading balanced lexemes gives their alternatives, and there is only one list of them.
use Rattle.std.proofs.Common.{◌≡◌, Bool, true, false, List, [], ◌∷◌, ◌++◌, refl, sym, ap, ◌∙◌}
use Rattle.std.specs.Prelude.{encode_utf8, ⊤}
use Rattle.glob_text.specs.Text.{Text}
use Rattle.glob_set.specs.declared.braces.lexemes.Lexeme.{Lexeme}
use Rattle.glob_set.specs.declared.braces.lexemes.Lexeme.TheVariants.{Literal, Open, Comma, Close}
use Rattle.glob_set.specs.Braces.{comma, each_with, HasAlternatives, HasEnded}
use Rattle.glob_set.specs.Private.BraceSteps.{OpenGroup, Reading, after_comma, after_lexeme, after_lexemes, start_reading}

-- lexemes are read in two parts
pub after_lexemes-append : (ls ms : List Lexeme) (r : Reading) → after_lexemes r (ls ++ ms) ≡ after_lexemes (after_lexemes r ls) ms
after_lexemes-append [] ms r = refl
after_lexemes-append (l ∷ ls) ms r = after_lexemes-append ls ms (after_lexeme l r)

-- two parts and one lexeme more
through : (m : Lexeme) (b x : List Lexeme) (r s t : Reading) → after_lexemes r b ≡ s → after_lexemes s x ≡ t
    → after_lexemes r (b ++ x ++ m ∷ []) ≡ after_lexeme m t
through m b x r s t first second =
    after_lexemes-append (b ++ x) (m ∷ []) r
    ∙ ap (after_lexeme m) (after_lexemes-append b x r ∙ ap (λ q. after_lexemes q x) first ∙ second)

-- outside all braces there is no group
abbrev Fits : Bool → List OpenGroup → Type 0
Fits true groups = groups ≡ []
Fits false groups = ⊤

comma_at : (ts : List Text) (groups : List OpenGroup) → groups ≡ []
    → after_comma ts groups ≡ record { texts = each_with ts (encode_utf8 comma); groups = groups }
comma_at ts [] fits = refl
comma_at ts (g ∷ gs) fits = absurd (cc)

mutual
  reads : {outside : Bool} {l : List Lexeme} {ts : List Text} → HasAlternatives outside l ts →
      (groups : List OpenGroup) → Fits outside groups
      → after_lexemes (record { texts = [] ∷ []; groups = groups }) l ≡ record { texts = ts; groups = groups }
  reads (HasAlternatives.at_start outside) groups fits = refl
  reads (HasAlternatives.literal outside l ts c h) groups fits =
      after_lexemes-append l (Literal c ∷ []) _ ∙ ap (after_lexeme (Literal c)) (reads h groups fits)
  reads (HasAlternatives.comma_outside l ts h) groups fits =
      after_lexemes-append l (Comma ∷ []) _ ∙ ap (after_lexeme Comma) (reads h groups fits) ∙ comma_at ts groups fits
  reads (HasAlternatives.braces outside l b x ts bs xs h e i) groups fits =
      after_lexemes-append l (Open ∷ (b ++ x ++ Close ∷ [])) _
      ∙ ap (λ r. after_lexemes (after_lexeme Open r) (b ++ x ++ Close ∷ [])) (reads h groups fits)
      ∙ through Close b x _ _ _ (reads_ended e ts groups) (reads i (record { before = ts; found = bs } ∷ groups) tt)

  reads_ended : {b : List Lexeme} {bs : List Text} → HasEnded b bs → (ts : List Text) (groups : List OpenGroup)
      → after_lexemes (record { texts = [] ∷ []; groups = record { before = ts; found = [] } ∷ groups }) b
      ≡ record { texts = [] ∷ []; groups = record { before = ts; found = bs } ∷ groups }
  reads_ended HasEnded.no_branch ts groups = refl
  reads_ended (HasEnded.one_more b x bs xs e i) ts groups =
      through Comma b x _ _ _ (reads_ended e ts groups) (reads i (record { before = ts; found = bs } ∷ groups) tt)

-- what reading gives is the alternatives
pub alternatives_read : (l : List Lexeme) (ts : List Text) → HasAlternatives true l ts → (after_lexemes start_reading l).texts ≡ ts
alternatives_read l ts h = ap (λ r. r.texts) (reads h [] refl)

-- there is only one list of alternatives
pub alternatives_unique : (l : List Lexeme) (ts us : List Text) → HasAlternatives true l ts → HasAlternatives true l us → ts ≡ us
alternatives_unique l ts us h i = sym (alternatives_read l ts h) ∙ alternatives_read l us i
