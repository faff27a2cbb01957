-- Accepted texts, faults and tokens: each text has its tokens or its fault, and only one of them.
use Rattle.std.proofs.Common.{◌≡◌, ◌↔◌, ℕ, ◌+◌, ◌≤◌, List, length, Option, Some, Result, Ok, Err, refl, ap, arith}
use Rattle.glob_text.specs.Text.{Text}
use Rattle.glob_pattern.specs.Grammar.Tokens.{Token, tokens_of_units}
use Rattle.glob_pattern.specs.Grammar.Units.{UnitAt, HasUnits, IsAccepted, HasTokens}
use Rattle.glob_pattern.specs.Grammar.Faults.{Fault, IsFault}
use Rattle.glob_pattern.specs.Computing.Reading.{unit_at, units_from, reading_of}
use Rattle.glob_pattern.proofs.GrammarLemmas.Accepting.{accepted_by_tokens, units_of_accepted}
use Rattle.glob_pattern.proofs.GrammarLemmas.Units.{unit_at-UnitAt}
use Rattle.glob_pattern.proofs.GrammarLemmas.Folding.{length-tokens_of_units}
use Rattle.glob_pattern.proofs.GrammarLemmas.Reading.{UnitsBetween-within, units_from-Ok, tokens_by_reading}
use Rattle.glob_pattern.proofs.GrammarLemmas.Reading.{reading_of-HasTokens, fault_by_reading, reading_of-IsFault}

-- The computation returns tokens exactly when they are the text's.
pub reading_of-Ok : (text : Text) (tokens : List Token) → (reading_of text ≡ Ok tokens) ↔ HasTokens text tokens
reading_of-Ok text tokens = (tokens_by_reading text tokens, reading_of-HasTokens text tokens)

-- The computation returns a fault exactly when it is the text's.
pub reading_of-Err : (text : Text) (fault : Fault) → (reading_of text ≡ Err fault) ↔ IsFault text fault
reading_of-Err text fault = (fault_by_reading text fault, reading_of-IsFault text fault)

-- A reading has one value.
same_found : (found : Option (Token × ℕ)) (t u : Token) (e m : ℕ) → found ≡ Some (t, e) → found ≡ Some (u, m) → (t ≡ u) × (e ≡ m)
same_found found t u e m first second =
    let same : ◌≡◌ {A = Token × ℕ} (t, e) (u, m) = cc in (ap (λ (p : Token × ℕ). p.0) same, ap (λ (p : Token × ℕ). p.1) same)

same_read : (read : Result (List Token) Fault) (tokens others : List Token) → read ≡ Ok tokens → read ≡ Ok others → tokens ≡ others
same_read read tokens others first second = cc

same_told : (read : Result (List Token) Fault) (fault other : Fault) → read ≡ Err fault → read ≡ Err other → fault ≡ other
same_told read fault other first second = cc

-- There is at most one unit at a place.
pub one_unit : (text : Text) (f : ℕ) (t u : Token) (e m : ℕ) → UnitAt text f t e → UnitAt text f u m → (t ≡ u) × (e ≡ m)
one_unit text f t u e m first second =
    same_found (unit_at text f) t u e m (unit_at-UnitAt text f t e first) (unit_at-UnitAt text f u m second)

-- A text has its units in one way.
pub one_way : (text : Text) (units others : List Token) → HasUnits text units → HasUnits text others → units ≡ others
one_way text units others first second =
    let n = length text + 1 in
    same_read (units_from n text 0) units others
    (units_from-Ok n text 0 units (omega arith) (omega arith) first) (units_from-Ok n text 0 others (omega arith) (omega arith) second)

-- A text has its tokens in one way.
pub one_reading : (text : Text) (tokens others : List Token) → HasTokens text tokens → HasTokens text others → tokens ≡ others
one_reading text tokens others first second =
    same_read (reading_of text) tokens others (reading_of-HasTokens text tokens first) (reading_of-HasTokens text others second)

-- A text has at most one fault.
pub one_fault : (text : Text) (fault other : Fault) → IsFault text fault → IsFault text other → fault ≡ other
one_fault text fault other first second =
    same_told (reading_of text) fault other (reading_of-IsFault text fault first) (reading_of-IsFault text other second)

-- An accepted text has no fault.
pub no_fault : (text : Text) (fault : Fault) → IsAccepted text → ¬ (IsFault text fault)
no_fault text fault accepted is =
    let has = units_of_accepted text accepted in
    let read = reading_of-HasTokens text (tokens_of_units has.0) (has.0, has.1, refl) in
    let told = reading_of-IsFault text fault is in cc

read_or_told : (text : Text) (read : Result (List Token) Fault) → reading_of text ≡ read → ¬ (IsAccepted text) →
    (fault : Fault) × IsFault text fault
read_or_told text (Ok tokens) e refused = absurd (refused (accepted_by_tokens text tokens (tokens_by_reading text tokens e)))
read_or_told text (Err fault) e refused = (fault, fault_by_reading text fault e)

-- Any other text has a fault.
pub some_fault : (text : Text) → ¬ (IsAccepted text) → (fault : Fault) × IsFault text fault × ((other : Fault)
    → IsFault text other → other ≡ fault)
some_fault text refused =
    let told = read_or_told text (reading_of text) refl refused in
    (told.0, told.1, λ other is. one_fault text other told.0 is told.1)

-- Each token has a character of its own.
pub length-HasTokens : (text : Text) (tokens : List Token) → HasTokens text tokens → length tokens ≤ length text
length-HasTokens text tokens has =
    let reach = UnitsBetween-within text 0 has.0 (length text) has.1 (omega arith) in
    let shorter = length-tokens_of_units has.0 in
    let same = ap length has.2 in
    omega arith
