-- The leads of texts.
use Rattle.std.proofs.Common.{◌≡◌, ◌≢◌, ◌∙◌, ◌==◌, ◌⊎◌, ℕ, ◌+◌, ◌<◌, Bool, true, false, ◌&&◌, List, [], ◌∷◌}
use Rattle.std.proofs.Common.{◌++◌, Bor, ap, bytes_eq, cond, drop, get_or, inl, inr, length, map, refl, sym}
use Rattle.std.specs.List.{fold}
use Rattle.std.proofs.lemmas.Bool.{eqb-true}
use Rattle.std.proofs.lemmas.List.{drop_more}
use Rattle.glob_text.specs.Characters.{dot, slash}
use Rattle.glob_text.specs.Text.{Text}
use Rattle.globs.specs.Find.Leads.{below_dots, below_lead, lead_of, led, with_lead}

-- a `./` stays where it is
here : (after : Text) → below_dots (46 ∷ 47 ∷ after) ≡ below_dots after
here [] = refl
here (c ∷ after) = refl

-- what is below the dots, after a `./` or a `../`
pub dots_more : (text after : Text) → (text ≡ 46 ∷ 47 ∷ after) ⊎ (text ≡ 46 ∷ 46 ∷ 47 ∷ after) → below_dots after ≡ below_dots text
dots_more text after (inl is) = sym (ap below_dots is ∙ here after)
dots_more text after (inr is) = sym (ap below_dots is)

-- two characters that are not `./`
no_here : (a b : ℕ) (rest : Text) → ((after : Text) → a ∷ b ∷ rest ≢ 46 ∷ 47 ∷ after) → (a == dot && b == slash) ≡ false
no_here a b rest none = by (a == dot) refl (b == slash) refl
  where
    by : (u : Bool) → (a == dot) ≡ u → (v : Bool) → (b == slash) ≡ v → (u && v) ≡ false
    by true one true two = absurd (none rest (ap (λ x. x ∷ b ∷ rest) (eqb-true a 46 one) ∙ ap (λ x. 46 ∷ x ∷ rest) (eqb-true b 47 two)))
    by true one false two = refl
    by false one v two = refl

-- three characters that are not `../`
no_up : (a b c : ℕ) (rest : Text) → ((after : Text) → a ∷ b ∷ c ∷ rest ≢ 46 ∷ 46 ∷ 47 ∷ after) →
    (a == dot && (b == dot && c == slash)) ≡ false
no_up a b c rest none = by (a == dot) refl (b == dot) refl (c == slash) refl
  where
    by : (u : Bool) → (a == dot) ≡ u → (v : Bool) → (b == dot) ≡ v → (w : Bool) → (c == slash) ≡ w → (u && (v && w)) ≡ false
    by true one true two true three = absurd (none rest (ap (λ x. x ∷ b ∷ c ∷ rest) (eqb-true a 46 one) ∙
        ap (λ x. 46 ∷ x ∷ c ∷ rest) (eqb-true b 46 two)
        ∙ ap (λ x. 46 ∷ 46 ∷ x ∷ rest) (eqb-true c 47 three)))
    by true one true two false three = refl
    by true one false two w three = refl
    by false one v two w three = refl

-- a text that begins with neither `./` nor `../`
pub dots_end : (text : Text) → ((after : Text) → (text ≢ 46 ∷ 47 ∷ after) × (text ≢ 46 ∷ 46 ∷ 47 ∷ after)) → text ≡ below_dots text
dots_end [] none = refl
dots_end (a ∷ []) none = refl
dots_end (a ∷ b ∷ []) none = sym (ap (λ u. cond u [] (a ∷ b ∷ [])) (no_here a b [] (λ after. (none after).0)))
dots_end (a ∷ b ∷ c ∷ text) none =
    sym (ap (λ u. cond u (below_dots (c ∷ text)) (cond (a == dot && (b == dot && c == slash)) (below_dots text) (a ∷ b ∷ c ∷ text)))
    (no_here a b (c ∷ text) (λ after. (none after).0))
    ∙ ap (λ u. cond u (below_dots text) (a ∷ b ∷ c ∷ text)) (no_up a b c text (λ after. (none after).1)))

-- The text is something, followed by what is below the dots.
abbrev Ends : (text below : Text) → Type 0
Ends text below = (front : Text) × (text ≡ front ++ below)

ends_cond : (u : Bool) (text one two : Text) → Ends text one → Ends text two → Ends text (cond u one two)
ends_cond true text one two first second = first
ends_cond false text one two first second = second

pub dots_ends : (text : Text) → Ends text (below_dots text)
dots_ends [] = ([], refl)
dots_ends (a ∷ []) = ([], refl)
dots_ends (a ∷ b ∷ []) = ends_cond (a == dot && b == slash) (a ∷ b ∷ []) [] (a ∷ b ∷ []) (a ∷ b ∷ [], refl) ([], refl)
dots_ends (a ∷ b ∷ c ∷ text) =
    let (one, first) = dots_ends (c ∷ text) in
    let (two, second) = dots_ends text in
    ends_cond (a == dot && b == slash) (a ∷ b ∷ c ∷ text) (below_dots (c ∷ text)) _ (a ∷ b ∷ one, ap (λ x. a ∷ b ∷ x) first)
    (ends_cond (a == dot && (b == dot && c == slash)) (a ∷ b ∷ c ∷ text) (below_dots text) (a ∷ b ∷ c ∷ text)
    (a ∷ b ∷ c ∷ two, ap (λ x. a ∷ b ∷ c ∷ x) second)
    ([], refl))

pub lead_ends : (text : Text) → Ends text (below_lead text)
lead_ends [] = ([], refl)
lead_ends (a ∷ text) =
    let (one, first) = dots_ends text in
    ends_cond (a == slash) (a ∷ text) (below_dots text) (below_dots (a ∷ text)) (a ∷ one, ap (λ x. a ∷ x) first) (dots_ends (a ∷ text))

-- what is below the lead of a text that does not begin with `/`
pub below_start : (text : Text) → ((rest : Text) → text ≢ 47 ∷ rest) → below_dots text ≡ below_lead text
below_start [] none = refl
below_start (a ∷ text) none = by (a == slash) refl
  where
    by : (u : Bool) → (a == slash) ≡ u → below_dots (a ∷ text) ≡ cond u (below_dots text) (below_dots (a ∷ text))
    by true is = absurd (none text (ap (λ x. x ∷ text) (eqb-true a 47 is)))
    by false is = refl

-- the first pattern, and the others
led_append : (lead : Text) (p : Text) (ps : List Text) → led lead (p ∷ []) ++ led lead ps ≡ led lead (p ∷ ps)
led_append lead p ps = by (bytes_eq (lead_of p) lead)
  where
    by : (u : Bool) → cond u (below_lead p ∷ []) [] ++ led lead ps ≡ cond u (below_lead p ∷ led lead ps) (led lead ps)
    by true = refl
    by false = refl

pub led_more : (lead : Text) (ps : List (Bor Text)) (i : ℕ) (d : Bor Text) → i < length ps
    → led lead ((get_or ps i d).now ∷ []) ++ led lead (map (λ p. p.now) (drop (i + 1) ps)) ≡ led lead (map (λ p. p.now) (drop i ps))
led_more lead ps i d less =
    led_append lead (get_or ps i d).now (map (λ p. p.now) (drop (i + 1) ps)) ∙
    sym (ap (λ qs. led lead (map (λ p. p.now) qs)) (drop_more ps i d less))

pub leads_more : (leads : List Text) (ps : List (Bor Text)) (i : ℕ) (d : Bor Text) → i < length ps
    → fold with_lead (with_lead leads (get_or ps i d).now) (map (λ p. p.now) (drop (i + 1) ps)) ≡
    fold with_lead leads (map (λ p. p.now) (drop i ps))
leads_more leads ps i d less = sym (ap (λ qs. fold with_lead leads (map (λ p. p.now) qs)) (drop_more ps i d less))
