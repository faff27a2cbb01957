-- Neighbouring `**` become one while tokens are appended.
use Rattle.std.proofs.Common.{◌≡◌, ℕ, zero, suc, ◌-◌, ◌<◌, ◌≤◌, Bool, true, false, ◌&&◌, cond, List, [], ◌∷◌, ◌++◌}
use Rattle.std.proofs.Common.{length, get_or, refl, ap, sym, ◌∙◌, arith}
use Rattle.std.proofs.lemmas.Bool.{cond_both, cond-true, cond-false, and_from, and_right, false≢true}
use Rattle.glob_pattern.specs.Grammar.Tokens.{Token, is_recursive, begins_recursive, ends_recursive, tokens_of_units}
use Rattle.glob_pattern.specs.declared.token.Token.TheVariants.{Literal, AnyChar, AnySequence, Recursive, OneOf, NoneOf}

-- Folding adds no token.
pub length-tokens_of_units : (units : List Token) → length (tokens_of_units units) ≤ length units
length-tokens_of_units [] = omega arith
length-tokens_of_units (t ∷ ts) =
    let rest = length-tokens_of_units ts in
    cond_both (is_recursive t && begins_recursive ts) _ _ (λ xs. length xs ≤ suc (length ts)) (λ e. omega arith) (λ e. omega arith)

-- One token stays as it is.
pub folded_one : (t : Token) → tokens_of_units (t ∷ []) ≡ t ∷ []
folded_one t = cond_both (is_recursive t && false) [] (t ∷ []) (λ xs. xs ≡ t ∷ [])
    (λ e. absurd (false≢true (sym (and_right (is_recursive t) false refl) ∙ e))) (λ e. refl)

-- At least one token stays.
pub folded_some : (t : Token) (ts : List Token) → 0 < length (tokens_of_units (t ∷ ts))
folded_some t [] = omega (arith, ap length (folded_one t))
folded_some t (u ∷ us) =
    let rest = folded_some u us in
    cond_both (is_recursive t && is_recursive u) (tokens_of_units (u ∷ us)) (t ∷ tokens_of_units (u ∷ us))
    (λ xs. 0 < length xs) (λ e. rest) (λ e. omega arith)

ends_deep_after : (u : Token) (ts : List Token) → 0 < length ts → ends_recursive (u ∷ ts) ≡ ends_recursive ts
ends_deep_after u [] some = absurd (omega arith)
ends_deep_after u (t ∷ ts) some = refl

-- The only recursive token is `Recursive`.
pub deep_is_Deep : (t : Token) → is_recursive t ≡ true → t ≡ Recursive
deep_is_Deep (Literal c) e = cc
deep_is_Deep AnyChar e = cc
deep_is_Deep AnySequence e = cc
deep_is_Deep Recursive e = refl
deep_is_Deep (OneOf entries) e = cc
deep_is_Deep (NoneOf entries) e = cc

both_or_rest : (a b : Bool) (x y z : List Token) → (a ≡ true → b ≡ true → x ≡ y) → cond (a && b) x z ≡ cond (b && a) y z
both_or_rest true true x y z same = same refl refl
both_or_rest true false x y z same = refl
both_or_rest false true x y z same = refl
both_or_rest false false x y z same = refl

behind : (b : Bool) (u : Token) (x y : List Token) → u ∷ cond b x y ≡ cond b (u ∷ x) (u ∷ y)
behind true u x y = refl
behind false u x y = refl

-- a token before what is folded with one more unit
folded_before : (dropped : Bool) (u t : Token) (before after : List Token) → 0 < length before → after ≡ cond
    (is_recursive t && ends_recursive before) before (before ++ t ∷ []) → cond dropped after (u ∷ after) ≡ cond
    (is_recursive t && ends_recursive (cond dropped before (u ∷ before))) (cond dropped before (u ∷ before))
    (cond dropped before (u ∷ before) ++ t ∷ [])
folded_before true u t before after some e = e
folded_before false u t before after some e =
    rw (ends_deep_after u before some, e) (behind (is_recursive t && ends_recursive before) u before (before ++ t ∷ []))

-- Folding with one more unit: a `**` after a `**` adds nothing.
pub tokens_of_units-push : (units : List Token) (t : Token) → tokens_of_units (units ++ t ∷ []) ≡ cond
    (is_recursive t && ends_recursive (tokens_of_units units)) (tokens_of_units units) (tokens_of_units units ++ t ∷ [])
tokens_of_units-push [] t = refl
tokens_of_units-push (u ∷ []) t =
    rw (folded_one t, folded_one u)
    (both_or_rest (is_recursive u) (is_recursive t) (t ∷ []) (u ∷ []) (u ∷ t ∷ []) (λ p q. rw (deep_is_Deep t q, deep_is_Deep u p) refl))
tokens_of_units-push (u ∷ v ∷ vs) t =
    folded_before (is_recursive u && is_recursive v) u t (tokens_of_units (v ∷ vs)) (tokens_of_units
    (v ∷ vs ++ t ∷ [])) (folded_some v vs) (tokens_of_units-push (v ∷ vs) t)

-- A `**` after a `**` adds nothing.
pub tokens_of_units-push_deep : (tokens units : List Token) (t : Token) → is_recursive t ≡ true → ends_recursive tokens
    ≡ true → tokens ≡ tokens_of_units units → tokens ≡ tokens_of_units (units ++ t ∷ [])
tokens_of_units-push_deep tokens units t deep ends e =
    e ∙ sym (tokens_of_units-push units t ∙ cond-true _ _ _ (and_from (is_recursive t) (ends_recursive
    (tokens_of_units units)) deep (ap ends_recursive (sym e) ∙ ends)))

-- Any other token is added.
pub tokens_of_units-push_other : (tokens units : List Token) (t : Token) → (is_recursive t && ends_recursive tokens) ≡
    false → tokens ≡ tokens_of_units units → tokens ++ t ∷ [] ≡ tokens_of_units (units ++ t ∷ [])
tokens_of_units-push_other tokens units t other e =
    ap (λ ts. ts ++ t ∷ []) e
    ∙ sym (tokens_of_units-push units t ∙ cond-false _ _ _ (ap (λ ts. is_recursive t && ends_recursive ts) (sym e) ∙ other))

-- at the last token
ends_recursive-at : (ts : List Token) (k : ℕ) (t : Token) → length ts ≡ suc k → t ≡ get_or ts k t → ends_recursive ts ≡ is_recursive t
ends_recursive-at [] k t size last = absurd (omega arith)
ends_recursive-at (u ∷ []) zero t size last = ap is_recursive (sym last)
ends_recursive-at (u ∷ []) (suc k) t size last = absurd (omega arith)
ends_recursive-at (u ∷ v ∷ vs) zero t size last = absurd (omega arith)
ends_recursive-at (u ∷ v ∷ vs) (suc k) t size last = ends_recursive-at (v ∷ vs) k t (omega arith) last

pub ends_recursive-last : (ts : List Token) (t : Token) → 1 ≤ length ts → t ≡ get_or ts (length ts - 1) t
    → ends_recursive ts ≡ is_recursive t
ends_recursive-last ts t some last = ends_recursive-at ts (length ts - 1) t (omega arith) last
