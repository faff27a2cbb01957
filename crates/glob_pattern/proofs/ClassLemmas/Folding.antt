-- Case-insensitively, a range holds the characters of three ranges.
use Rattle.std.proofs.Common.{◌≡◌, ℕ, ◌+◌, ◌<◌, ◌≤◌, ◌⊎◌, Bool, true, false, not, ◌&&◌, ◌||◌, refl, sym, ap, ◌∙◌, ⊎_elim, arith}
use Rattle.std.proofs.Math.Bool.{or-false}
use Rattle.std.proofs.lemmas.Bool.{lt-ltb, le-ltb, cases_lt, false≢true}
use Rattle.std.proofs.lemmas.Bool.Decides.{nat_tests}
use Rattle.std.specs.Char.{to_ascii_lowercase, to_ascii_uppercase, is_ascii, is_ascii_lowercase, is_ascii_alphabetic}
use Rattle.glob_pattern.specs.Grammar.Brackets.{is_same, in_range, in_folded_range, entry_holds}
use Rattle.glob_pattern.specs.Private.Brackets.{first_of, last_of}
use Rattle.glob_pattern.specs.Private.Classes.{are_letters}
use Rattle.glob_pattern.specs.declared.token.bracket.Entry.{Entry}
use Rattle.glob_pattern.specs.declared.token.bracket.Entry.TheVariants.{Single, Range}
use Rattle.glob_pattern.proofs.MatchingLemmas.Case.{lower_cases}

not_both : (ax lx ay ly ac r : Bool) → ((ax && lx) && (ay && ly)) ≡ false → (ax && ay && ac && lx && ly && r) ≡ false
not_both ax lx ay ly ac r e = grind arith

both : (ax lx ay ly ac r : Bool) → ((ax && lx) && (ay && ly)) ≡ true → (ax && ay && ac && lx && ly && r) ≡ (ac && r)
both ax lx ay ly ac r e = grind arith

is_letter : (x : ℕ) → is_ascii_alphabetic x ≡ (is_ascii x && is_ascii_lowercase (to_ascii_lowercase x))
is_letter x = grind (arith, nat_tests)

letter-forms : (x y : ℕ) → are_letters x y ≡ true
    → (97 ≤ to_ascii_lowercase x) × (to_ascii_lowercase y ≤ 122) × (to_ascii_uppercase x + 32 ≡ to_ascii_lowercase x) ×
    (to_ascii_uppercase y + 32 ≡ to_ascii_lowercase y)
letter-forms x y t = grind (arith, nat_tests)

-- the lower-case form of a character is between two lower-case letters exactly when the character is between them in
-- either case
forms : (c small first last upper_first upper_last : ℕ) → 97 ≤ first → last ≤ 122 → upper_first + 32 ≡ first → upper_last + 32 ≡ last
    → ((65 ≤ c) × (c ≤ 90) × (small ≡ c + 32)) ⊎ (((c < 65) ⊎ (90 < c)) × (small ≡ c))
    → (in_range first last c || in_range upper_first upper_last c) ≡ in_range first last small
forms c small first last upper_first upper_last low high uf ul cases = grind (arith, nat_tests)

-- the lower-case form of a character beyond ASCII is never between them
beyond : (c small first last : ℕ) → 128 ≤ c → last ≤ 122 → ((65 ≤ c) × (c ≤ 90) × (small ≡ c + 32)) ⊎
    (((c < 65) ⊎ (90 < c)) × (small ≡ c)) → in_range first last small ≡ false
beyond c small first last high end cases = grind (arith, nat_tests)

ascii_or : (c small first last : ℕ) → last ≤ 122 → ((65 ≤ c) × (c ≤ 90) × (small ≡ c + 32)) ⊎ (((c < 65) ⊎ (90 < c)) ×
    (small ≡ c)) → (is_ascii c && in_range first last small) ≡ in_range first last small
ascii_or c small first last end cases =
    ⊎_elim
    (λ lt. rw (lt-ltb c 128 lt) refl)
    (λ le. rw (le-ltb c 128 le) (sym (beyond c small first last le end cases)))
    (cases_lt c 128)

held-letters : (x y c : ℕ) → are_letters x y ≡ true
    → (in_range (to_ascii_lowercase x) (to_ascii_lowercase y) c || in_range (to_ascii_uppercase x)
    (to_ascii_uppercase y) c) ≡ in_folded_range x y c
held-letters x y c letters =
    let (low, high, uf, ul) = letter-forms x y letters in
    forms c (to_ascii_lowercase c) _ _ _ _ low high uf ul (lower_cases c)
    ∙ sym (ascii_or c (to_ascii_lowercase c) (to_ascii_lowercase x) (to_ascii_lowercase y) high (lower_cases c))
    ∙ sym (both (is_ascii x) _ (is_ascii y) _ (is_ascii c) _ (rw (← is_letter x, ← is_letter y) letters))

held-others : (x y c : ℕ) → are_letters x y ≡ false → in_folded_range x y c ≡ false
held-others x y c none = not_both (is_ascii x) _ (is_ascii y) _ (is_ascii c) _ (rw (← is_letter x, ← is_letter y) none)

-- case-sensitively, or if an end is not a letter, a range holds what is between its ends
pub held-plain : (case : Bool) (x y c : ℕ) → (not case && are_letters x y) ≡ false → entry_holds case c (Range x y) ≡ in_range x y c
held-plain true x y c none = or-false (in_range x y c)
held-plain false x y c none = rw (held-others x y c none) (or-false (in_range x y c))

-- otherwise it holds what is between them in either case
pub held-cases : (case : Bool) (x y c : ℕ) → (not case && are_letters x y) ≡ true
    → ((in_range x y c || in_range (to_ascii_lowercase x) (to_ascii_lowercase y) c) || in_range (to_ascii_uppercase x)
    (to_ascii_uppercase y) c) ≡ entry_holds case c (Range x y)
held-cases true x y c both = absurd (false≢true both)
held-cases false x y c both = or_assoc (in_range x y c) _ _ ∙ ap (λ b. in_range x y c || b) (held-letters x y c both)
  where
    or_assoc : (p q r : Bool) → ((p || q) || r) ≡ (p || (q || r))
    or_assoc true q r = refl
    or_assoc false q r = refl

-- no character is between ends that are in the wrong order
pub held-none : (x y c : ℕ) → y < x → in_range x y c ≡ false
held-none x y c less = grind (arith, nat_tests)

-- a single character is held as the range from itself to itself
pub single-held : (case : Bool) (c x : ℕ) → entry_holds case c (Range x x) ≡ is_same case c x
single-held true c x = grind (arith, nat_tests)
single-held false c x = grind (arith, nat_tests)

pub held-ends : (case : Bool) (c : ℕ) (e : Entry) → entry_holds case c (Range (first_of e) (last_of e)) ≡ entry_holds case c e
held-ends case c (Single x) = single-held case c x
held-ends case c (Range x y) = refl
