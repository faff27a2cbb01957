-- What the words after `find` ask for, once their first one or two are read.
use Rattle.std.proofs.Common.{◌≡◌, ℕ, ◌-◌, ◌<◌, ◌≤◌, ◌==◌, Bool, true, false, if◌then◌else◌, Option, is_some, List, []}
use Rattle.std.proofs.Common.{◌∷◌, None, Some, length, get_or, take, drop, map, refl, sym, subst, Bor, arith}
use Rattle.std.specs.Prelude.{codes, bytes_eq}
use Rattle.std.proofs.lemmas.Bool.{false≢true}
use Rattle.std.proofs.lemmas.List.{take_rest}
use Rattle.glob.specs.Matching.Options.{with_letter}
use Rattle.glob.specs.Types.{MatchOptions}
use Rattle.glob_console.specs.Words.{is_match_option, is_option, limit_of, with_option}
use Rattle.glob_run.specs.CommandLine.{paths_request}

if_some : {X : Type 0} (b : Bool) (x : Option X) → is_some (if b then x else None) ≡ true → b ≡ true
if_some true x e = refl
if_some false x e = e

-- a word that sets an option begins with a hyphen
is_option-from_match_option : (o : MatchOptions) (word : List ℕ) → is_match_option o word ≡ true → is_option word ≡ true
is_option-from_match_option o [] e = e
is_option-from_match_option o (c ∷ []) e = absurd (false≢true e)
is_option-from_match_option o (c ∷ letter ∷ []) e = if_some (c == 45) (with_letter letter o) e
is_option-from_match_option o (c ∷ letter ∷ d ∷ ds) e = absurd (false≢true e)

option_first : (o : MatchOptions) (limit : ℕ) (word : List ℕ) (words : List (List ℕ)) → bytes_eq word (codes "-n") ≡
    false → is_match_option o word ≡ true
    → paths_request o limit (word ∷ words) ≡ paths_request (with_option word o) limit words
option_first o limit word [] other sets = let e = is_option-from_match_option o word sets in rw e refl
option_first o limit word (next ∷ words) other sets = rw other (rw sets refl)

-- after a word that sets an option
pub paths_request-option : (o : MatchOptions) (limit : ℕ) (none : Bor (List ℕ)) (words : List (Bor (List ℕ))) → 1 ≤ length words
    → bytes_eq (get_or words 0 none).now (codes "-n") ≡ false → is_match_option o (get_or words 0 none).now ≡ true
    → paths_request o limit (map (λ w. w.now) words)
    ≡ paths_request (with_option (get_or words 0 none).now o) limit (map (λ w. w.now) (take (length words - 1) (drop 1 words)))
paths_request-option o limit none [] long other sets = absurd (omega (arith, long))
paths_request-option o limit none (word ∷ words) long other sets =
    rw (take_rest (word ∷ words) 1) (option_first o limit word.now (map (λ w. w.now) words) other sets)

limit_first : (o : MatchOptions) (limit most : ℕ) (word next : List ℕ) (words : List (List ℕ)) → bytes_eq word
    (codes "-n") ≡ true → limit_of next ≡ Some most
    → paths_request o limit (word ∷ next ∷ words) ≡ paths_request o most words
limit_first o limit most word next words is gives = rw is (rw gives refl)

limit_next : (o : MatchOptions) (limit most : ℕ) (word other : Bor (List ℕ)) (words : List (Bor (List ℕ))) → 1 ≤ length words
    → bytes_eq word.now (codes "-n") ≡ true → limit_of (get_or words 0 other).now ≡ Some most
    → paths_request o limit (map (λ w. w.now) (word ∷ words)) ≡ paths_request o most (map (λ w. w.now)
    (take (length words - 1) (drop 1 words)))
limit_next o limit most word other [] long is gives = absurd (omega (arith, long))
limit_next o limit most word other (next ∷ words) long is gives =
    rw (take_rest (next ∷ words) 1) (limit_first o limit most word.now next.now (map (λ w. w.now) words) is gives)

-- after `-n` and a limit
pub paths_request-limit : (o : MatchOptions) (limit most : ℕ) (none other : Bor (List ℕ)) (words : List (Bor (List ℕ)))
    → 1 ≤ length words → 1 ≤ length (take (length words - 1) (drop 1 words))
    → bytes_eq (get_or words 0 none).now (codes "-n") ≡ true → limit_of (get_or (take (length words - 1)
    (drop 1 words)) 0 other).now ≡ Some most
    → paths_request o limit (map (λ w. w.now) words)
    ≡ paths_request o most (map (λ w. w.now) (take (length (take (length words - 1) (drop 1 words)) - 1)
    (drop 1 (take (length words - 1) (drop 1 words)))))
paths_request-limit o limit most none other [] long more is gives = absurd (omega (arith, long))
paths_request-limit o limit most none other (word ∷ words) long more is gives =
    let rest : take (length (word ∷ words) - 1) (drop 1 (word ∷ words)) ≡ words = take_rest (word ∷ words) 1 in
    let more' : 1 ≤ length words = subst (λ l. 1 ≤ length l) rest more in
    let gives' : limit_of (get_or words 0 other).now ≡ Some most = subst (λ l. limit_of (get_or l 0 other).now ≡ Some most) rest gives in
    subst (λ l. paths_request o limit (map (λ w. w.now) (word ∷ words)) ≡ paths_request o most (map (λ w. w.now)
    (take (length l - 1) (drop 1 l)))) (sym rest)
    (limit_next o limit most word other words more' is gives')

-- after `-n` and no limit
pub paths_request-no_limit : (o : MatchOptions) (limit : ℕ) (none other : Bor (List ℕ)) (words : List (Bor (List ℕ)))
    → 1 ≤ length words → 1 ≤ length (take (length words - 1) (drop 1 words))
    → bytes_eq (get_or words 0 none).now (codes "-n") ≡ true → limit_of (get_or (take (length words - 1) (drop 1 words)) 0 other).now ≡ None
    → None ≡ paths_request o limit (map (λ w. w.now) words)
paths_request-no_limit o limit none other [] long more is gives = absurd (omega (arith, long))
paths_request-no_limit o limit none other (word ∷ []) long more is gives = absurd (omega (arith, more))
paths_request-no_limit o limit none other (word ∷ next ∷ words) long more is gives =
    let gives' : limit_of next.now ≡ None = subst (λ l. limit_of (get_or l 0 other).now ≡ None) (take_rest (word ∷ next ∷ words) 1) gives in
    rw is (rw gives' refl)

-- if no word is left
pub paths_request-none : (o : MatchOptions) (limit : ℕ) (words : List (Bor (List ℕ))) → length words < 1
    → None ≡ paths_request o limit (map (λ w. w.now) words)
paths_request-none o limit [] short = refl
paths_request-none o limit (word ∷ words) short = absurd (omega (arith, short))
