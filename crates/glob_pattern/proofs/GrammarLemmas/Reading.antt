-- The computed reading of a pattern agrees with the grammar.
use Rattle.std.proofs.Common.{◌≡◌, ℕ, zero, suc, ◌+◌, ◌<◌, ◌≤◌, false, leb, List, [], ◌∷◌, ◌++◌, length, Option, Some}
use Rattle.std.proofs.Common.{None, Result, Ok, Err, refl, ap, sym, ◌∙◌, subst, arith}
use Rattle.std.proofs.lemmas.Bool.{cond_both, leb-true, leb-false, le-leb, lt-leb, and_left}
use Rattle.glob_text.specs.Text.{Text, Has}
use Rattle.glob_pattern.specs.Grammar.Characters.{open_bracket}
use Rattle.glob_pattern.specs.Grammar.Tokens.{Token, is_recursive, ends_recursive, tokens_of_units}
use Rattle.glob_pattern.specs.Grammar.Units.{UnitAt, UnitsBetween, HasTokens}
use Rattle.glob_pattern.specs.Grammar.Faults.{Fault, fault_at, NoUnitAt, IsFault, Refuses}
use Rattle.glob_pattern.specs.Computing.Reading.{unit_at, RefusesAt, reading_with_first, reading_after_unit, units_from}
use Rattle.glob_pattern.specs.Computing.Reading.{tokens_of_reading, reading_of}
use Rattle.glob_pattern.specs.declared.token.Token.TheVariants.{Literal, AnyChar, AnySequence, Recursive, OneOf, NoneOf}
use Rattle.glob_pattern.specs.declared.error.PatternRefusal.{PatternRefusal}
use Rattle.glob_pattern.specs.declared.error.PatternRefusal.TheVariants.{Syntax, Memory}
use Rattle.glob_pattern.proofs.GrammarLemmas.Folding.{tokens_of_units-push_other}
use Rattle.glob_pattern.proofs.GrammarLemmas.Units.{IsClear, UnitAt-within, IsClear-after, Stands, Stands-unit_at}
use Rattle.glob_pattern.proofs.GrammarLemmas.Units.{unit_at-UnitAt, NoUnitAt-None}

-- Units end at or after their start, and within the text.
pub UnitsBetween-within : (text : Text) (f : ℕ) (units : List Token) (e : ℕ) → UnitsBetween text f units e
    → f ≤ length text → (f + length units ≤ e) × (e ≤ length text)
UnitsBetween-within text f [] e between within = (omega arith, omega arith)
UnitsBetween-within text f (t ∷ ts) e between within =
    let unit = UnitAt-within text f t between.0 between.1 in
    let rest = UnitsBetween-within text between.0 ts e between.2 unit.1 in
    (omega arith, rest.1)

-- one more unit at the end
pub UnitsBetween-push : (text : Text) (f : ℕ) (units : List Token) (m : ℕ) (t : Token) (e : ℕ) → UnitsBetween text f
    units m → UnitAt text m t e → UnitsBetween text f (units ++ t ∷ []) e
UnitsBetween-push text f [] m t e between unit = (e, subst (λ k. UnitAt text k t e) (sym between) unit, refl)
UnitsBetween-push text f (u ∷ us) m t e between unit =
    (between.0, between.1, UnitsBetween-push text between.0 us m t e between.2 unit)

-- the fault of what is left from place f on
abbrev pub IsFaultFrom : Text → ℕ → Fault → Type 0
IsFaultFrom text f fault =
    (p : ℕ) × (units : List Token) × UnitsBetween text f units p × (p < length text) × NoUnitAt text p × (fault ≡ fault_at text p)

-- what reading from place f on answers
abbrev pub Answers : Text → ℕ → Result (List Token) Fault → Type 0
Answers text f (Ok units) = UnitsBetween text f units (length text)
Answers text f (Err fault) = IsFaultFrom text f fault

-- a unit before what is read after it
Answers-reading_with_first : (text : Text) (f : ℕ) (t : Token) (e : ℕ) (read : Result (List Token) Fault)
    → UnitAt text f t e → Answers text e read → Answers text f (reading_with_first t read)
Answers-reading_with_first text f t e (Ok ts) unit answers = (e, unit, answers)
Answers-reading_with_first text f t e (Err fault) unit answers =
    (answers.0, t ∷ answers.1, (e, unit, answers.2), answers.3, answers.4, answers.5)

Answers-reading_after_unit : (text : Text) (f : ℕ) (read : ℕ → Result (List Token) Fault) (found : Option (Token × ℕ))
    → f < length text → unit_at text f ≡ found → Stands text f found → ((t : Token) (e : ℕ) → UnitAt text f t e
    → Answers text e (read e)) → Answers text f (reading_after_unit text f read found)
Answers-reading_after_unit text f read None within found stands later =
    (f, [], refl, within, NoUnitAt-None text f found, refl)
Answers-reading_after_unit text f read (Some (t, e)) within found stands later =
    Answers-reading_with_first text f t e (read e) stands (later t e stands)

-- What the computation answers is true.
pub Answers-units_from : (n : ℕ) (text : Text) (f : ℕ) → length text < f + n → f ≤ length text → IsClear text f
    → Answers text f (units_from n text f)
unfolding units_from
Answers-units_from zero text f enough within clear = absurd (omega arith)
Answers-units_from (suc n) text f enough within clear =
    cond_both (leb (length text) f) _ _ (Answers text f)
    (λ e. let at_end = leb-true (length text) f e in let done : f ≡ length text = omega arith in done)
    (λ e.
    let before = leb-false (length text) f e in
    Answers-reading_after_unit text f (units_from n text) (unit_at text f) before refl (Stands-unit_at text f before clear)
    (λ t m unit.
    let reach = UnitAt-within text f t m unit in
    Answers-units_from n text m (omega arith) reach.1 (IsClear-after text f t m unit)))

-- one more place to read, where there is a unit
units_from-unit : (n : ℕ) (text : Text) (f : ℕ) (t : Token) (e : ℕ) → UnitAt text f t e → units_from (suc n) text f ≡
    reading_with_first t (units_from n text e)
unfolding units_from
units_from-unit n text f t e unit =
    let reach = UnitAt-within text f t e unit in
    rw (lt-leb (length text) f (omega arith), unit_at-UnitAt text f t e unit) refl

-- Units up to the end are read.
pub units_from-Ok : (n : ℕ) (text : Text) (f : ℕ) (units : List Token) → length text < f + n → f ≤ length text
    → UnitsBetween text f units (length text) → units_from n text f ≡ Ok units
unfolding units_from
units_from-Ok zero text f units enough within between = absurd (omega arith)
units_from-Ok (suc n) text f [] enough within between = rw (le-leb (length text) f (omega arith)) refl
units_from-Ok (suc n) text f (t ∷ ts) enough within between =
    let reach = UnitAt-within text f t between.0 between.1 in
    units_from-unit n text f t between.0 between.1
    ∙ ap (reading_with_first t) (units_from-Ok n text between.0 ts (omega arith) reach.1 between.2)

-- If there is no unit, no unit is found.
unit_at-None : (text : Text) (f : ℕ) (found : Option (Token × ℕ)) → Stands text f found → NoUnitAt text f → found ≡ None
unit_at-None text f None stands none = refl
unit_at-None text f (Some (t, e)) stands none = absurd (none t e stands)

-- a fault where there is no unit
units_from-none : (n : ℕ) (text : Text) (f : ℕ) → f < length text → IsClear text f → NoUnitAt text f → units_from
    (suc n) text f ≡ Err (fault_at text f)
unfolding units_from
units_from-none n text f before clear none =
    rw (lt-leb (length text) f before, unit_at-None text f (unit_at text f) (Stands-unit_at text f before clear) none) refl

-- A fault behind units is read.
pub units_from-Err : (n : ℕ) (text : Text) (f : ℕ) (units : List Token) (p : ℕ) → length text < f + n → f ≤ length text
    → UnitsBetween text f units p → IsClear text f → p < length text → NoUnitAt text p → units_from n text f ≡ Err
    (fault_at text p)
unfolding units_from
units_from-Err zero text f units p enough within between clear before none = absurd (omega arith)
units_from-Err (suc n) text f [] p enough within between clear before none =
    subst (λ k. units_from (suc n) text f ≡ Err (fault_at text k)) between
    (units_from-none n text f (omega arith) clear (subst (NoUnitAt text) (sym between) none))
units_from-Err (suc n) text f (t ∷ ts) p enough within between clear before none =
    let reach = UnitAt-within text f t between.0 between.1 in
    units_from-unit n text f t between.0 between.1
    ∙ ap (reading_with_first t) (units_from-Err n text between.0 ts p (omega arith) reach.1 between.2
    (IsClear-after text f t between.0 between.1) before none)

-- no character is before the start
pub IsClear-start : (text : Text) → IsClear text 0
IsClear-start text at positive = absurd (omega arith)

Answers-start : (text : Text) → Answers text 0 (units_from (suc (length text)) text 0)
Answers-start text = Answers-units_from (suc (length text)) text 0 (omega arith) (omega arith) (IsClear-start text)

HasTokens-Answers : (text : Text) (read : Result (List Token) Fault) (tokens : List Token) → Answers text 0 read
    → tokens_of_reading read ≡ Ok tokens → HasTokens text tokens
HasTokens-Answers text (Ok units) tokens answers e = (units, answers, cc)
HasTokens-Answers text (Err fault) tokens answers e = cc

IsFault-Answers : (text : Text) (read : Result (List Token) Fault) (fault : Fault) → Answers text 0 read
    → tokens_of_reading read ≡ Err fault → IsFault text fault
unfolding IsFault
IsFault-Answers text (Ok units) fault answers e = cc
IsFault-Answers text (Err other) fault answers e = let same : other ≡ fault = cc in subst (IsFault text) same answers

-- What is read are the tokens of the text.
pub tokens_by_reading : (text : Text) (tokens : List Token) → reading_of text ≡ Ok tokens → HasTokens text tokens
tokens_by_reading text tokens e = HasTokens-Answers text _ tokens (Answers-start text) e

-- The tokens of a text are read.
pub reading_of-HasTokens : (text : Text) (tokens : List Token) → HasTokens text tokens → reading_of text ≡ Ok tokens
reading_of-HasTokens text tokens has =
    ap tokens_of_reading (units_from-Ok (suc (length text)) text 0 has.0 (omega arith) (omega arith) has.1) ∙ ap Ok (sym has.2)

-- The fault that is read is the fault of the text.
pub fault_by_reading : (text : Text) (fault : Fault) → reading_of text ≡ Err fault → IsFault text fault
fault_by_reading text fault e = IsFault-Answers text _ fault (Answers-start text) e

-- The fault of a text is read.
pub reading_of-IsFault : (text : Text) (fault : Fault) → IsFault text fault → reading_of text ≡ Err fault
unfolding IsFault
reading_of-IsFault text fault is =
    ap tokens_of_reading (units_from-Err (suc (length text)) text 0 is.1 is.0 (omega arith) (omega arith) is.2
    (IsClear-start text) is.3 is.4)
    ∙ ap Err (sym is.5)

-- The tokens are those of the units up to place f.
abbrev pub HasRead : Text → List Token → ℕ → Type 0
HasRead text tokens f =
    (f ≤ length text) × IsClear text f × (units : List Token) × UnitsBetween text 0 units f × (tokens ≡ tokens_of_units units)

-- nothing so far
pub HasRead-start : (text : Text) → HasRead text [] 0
HasRead-start text = (omega arith, IsClear-start text, [], refl, refl)

-- one more unit
pub HasRead-more : (text : Text) (tokens more : List Token) (f : ℕ) (t : Token) (e : ℕ) → HasRead text tokens f
    → UnitAt text f t e → ((units : List Token) → tokens ≡ tokens_of_units units → more ≡ tokens_of_units
    (units ++ t ∷ [])) → HasRead text more e
HasRead-more text tokens more f t e has unit pushed = (
  (UnitAt-within text f t e unit).1,
  IsClear-after text f t e unit,
  has.2 ++ t ∷ [],
  UnitsBetween-push text 0 has.2
      f t e has.3 unit,
  pushed has.2 has.4,
)

-- one more unit that is not recursive
pub HasRead-push : (text : Text) (tokens : List Token) (f : ℕ) (t : Token) (e : ℕ) → HasRead text tokens f
    → UnitAt text f t e → is_recursive t ≡ false → HasRead text (tokens ++ t ∷ []) e
HasRead-push text tokens f t e has unit other =
    HasRead-more text tokens (tokens ++ t ∷ []) f t e has unit
    (λ units same. tokens_of_units-push_other tokens units t (and_left (is_recursive t) (ends_recursive tokens) other) same)

-- A unit that begins with a bracket is not recursive.
pub UnitAt-bracket : (text : Text) (f : ℕ) (t : Token) (e : ℕ) → UnitAt text f t e → Has text f open_bracket → is_recursive t ≡ false
UnitAt-bracket text f (Literal c) e unit at = refl
UnitAt-bracket text f AnyChar e unit at = refl
UnitAt-bracket text f AnySequence e unit at = refl
UnitAt-bracket text f Recursive e unit at =
    let stars = unit.0.0 f (omega arith) (omega arith) in
    absurd (omega (arith, at.1, stars.1))
UnitAt-bracket text f (OneOf entries) e unit at = refl
UnitAt-bracket text f (NoneOf entries) e unit at = refl

-- all units
pub HasTokens-HasRead : (text : Text) (tokens : List Token) → HasRead text tokens (length text) → HasTokens text tokens
HasTokens-HasRead text tokens has = (has.2, has.3, has.4)

-- A refusal at a place without a unit, after the units that were read, is a refusal of the text.
pub Refuses-HasRead : (text : Text) (tokens : List Token) (f : ℕ) (refusal : PatternRefusal) → HasRead text tokens f
    → f < length text → RefusesAt text f refusal → Refuses text refusal
unfolding IsFault
Refuses-HasRead text tokens f (Syntax e) has within at =
    let told = fault_at text f in
    let made : ℕ → List ℕ → Fault = λ p m. record { place = p; message = m } in
    (f, has.2, has.3, within, NoUnitAt-None text f at.0, ap (λ p. made p e.msg.now) at.1 ∙ ap (made told.place) at.2)
Refuses-HasRead text tokens f Memory has within at = tt
