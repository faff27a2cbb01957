use Rattle.std.proofs.Common.{◌≡◌, ◌≢◌, ◌∷◌, ◌++◌, ◌∙◌, ℕ, List, [], Option, None, Some, Bor, MatchOption, ap, sym, append_assoc, lit<}
use Rattle.std.proofs.lemmas.List.{append_cancel_right}
use Rattle.std.proofs.lemmas.Option.{MatchOption-at_none, MatchOption-at_some}
use Rattle.std.proofs.lemmas.Str.Pattern.{strip_suffix_char}
use Rattle.globs.proofs.explain.hints.without_below.Goals as goal

-- the text without its last character, if that character and more are at its end
shorter : (text rest front more : List ℕ) (c : ℕ) → text ≡ rest ++ (c ∷ []) → text ≡ front ++ (more ++ (c ∷ [])) → rest ≡ front ++ more
shorter text rest front more c is ends = append_cancel_right rest (front ++ more) (c ∷ [])
    (sym is ∙ ends ∙ sym (append_assoc front more (c ∷ [])))

before_slash : (text one two : List ℕ) (r : Option (Bor (List ℕ))) → text ≡ one ++ (42 ∷ []) → one ≡ two ++ (42 ∷ [])
    → MatchOption r ((front : List ℕ) → two ≢ front ++ (47 ∷ [])) (λ x. two ≡ x.now ++ (47 ∷ []))
    → MatchOption r ((above : List ℕ) → text ≢ above ++ (47 ∷ 42 ∷ 42 ∷ [])) (λ x. text ≡ x.now ++ (47 ∷ 42 ∷ 42 ∷ []))
before_slash text one two None star next none = λ above same.
    none above (shorter one two above (47 ∷ []) 42 next (shorter text one above (47 ∷ 42 ∷ []) 42 star same))
before_slash text one two (Some x) star next is =
    star ∙ ap (λ t. t ++ (42 ∷ [])) (next ∙ ap (λ t. t ++ (42 ∷ [])) is) ∙ simp append_assoc

pub returns-in_err-strip_suffix : goal.returns-in_err-strip_suffix
returns-in_err-strip_suffix c =
    let stripped = strip_suffix_char 42 c.args.text.now c.strip_suffix.result c.strip_suffix.ensures.cases (lit< tt) in
    rw c.from_residual.ensures (λ above same.
    MatchOption-at_none _ _ c.in_err-strip_suffix.was stripped (above ++ (47 ∷ 42 ∷ []))
    (same ∙ sym (append_assoc above (47 ∷ 42 ∷ []) (42 ∷ []))))

pub returns-in_err-strip_suffix-2 : goal.returns-in_err-strip_suffix-2
returns-in_err-strip_suffix-2 c =
    let stripped = strip_suffix_char 42 c.args.text.now c.strip_suffix.result c.strip_suffix.ensures.cases (lit< tt) in
    let one = c.in_ok-strip_suffix.field-0 in
    let star = MatchOption-at_some _ _ one c.in_ok-strip_suffix.was stripped in
    let again = strip_suffix_char 42 one.now c.strip_suffix-2.result c.strip_suffix-2.ensures.cases (lit< tt) in
    rw c.from_residual-in_err-strip_suffix-2.ensures (λ above same.
    MatchOption-at_none _ _ c.in_err-strip_suffix-2.was again (above ++ (47 ∷ []))
    (shorter c.args.text.now one.now above (47 ∷ 42 ∷ []) 42 star same ∙ sym (append_assoc above (47 ∷ []) (42 ∷ []))))

pub returns : goal.returns
returns c =
    let stripped = strip_suffix_char 42 c.args.text.now c.strip_suffix.result c.strip_suffix.ensures.cases (lit< tt) in
    let one = c.in_ok-strip_suffix.field-0 in
    let star = MatchOption-at_some _ _ one c.in_ok-strip_suffix.was stripped in
    let again = strip_suffix_char 42 one.now c.strip_suffix-2.result c.strip_suffix-2.ensures.cases (lit< tt) in
    let two = c.in_ok-strip_suffix-2.field-0 in
    let next = MatchOption-at_some _ _ two c.in_ok-strip_suffix-2.was again in
    before_slash c.args.text.now one.now two.now c.strip_suffix-3.result star next
    (strip_suffix_char 47 two.now c.strip_suffix-3.result c.strip_suffix-3.ensures.cases (lit< tt))
