-- A token takes all characters of a class or none.
use Rattle.std.proofs.Common.{◌≡◌, ℕ, ◌<◌, Bool, true, false, not, ◌&&◌, ◌||◌, ◌==◌, if◌then◌else◌, ◌⊎◌, inl, inr}
use Rattle.std.proofs.Common.{⊎_elim, refl, sym, ap, ◌∙◌, arith}
use Rattle.std.proofs.Math.Bool.{and-false, and-true}
use Rattle.std.proofs.lemmas.Bool.{and_parts, eqb-true, cases_Bool, false≢true}
use Rattle.std.proofs.lemmas.Bool.Decides.{nat_tests}
use Rattle.glob_text.specs.Characters.{slash, dot}
use Rattle.glob_pattern.specs.Grammar.Brackets.{is_same, holds}
use Rattle.glob_pattern.specs.Grammar.Tokens.{Token, is_recursive}
use Rattle.glob_pattern.specs.Matching.Taking.{takes, is_excluded_separator, is_excluded_dot}
use Rattle.glob_pattern.specs.Private.Classes.{Partition, IsPartition, class_in, columns_of}
use Rattle.glob_pattern.specs.Private.CharMasks.{class_of, case_options, is_bracket, lists, is_plain}
use Rattle.glob_pattern.specs.Private.CharMasks.{takes_all_but_listed, takes_separator, takes_dot}
use Rattle.glob_pattern.specs.declared.options.MatchOptions.{MatchOptions}
use Rattle.glob_pattern.specs.declared.token.Token.TheVariants.{Literal, AnyChar, AnySequence, Recursive, OneOf, NoneOf}
use Rattle.glob_pattern.proofs.ClassLemmas.Separating.{class-bounds}

-- `/` and `.` have no case
same-caseless : (case : Bool) (c x : ℕ) → c < 65 → is_same case c x ≡ (x == c)
same-caseless true c x low = grind (arith, nat_tests)
same-caseless false c x low = grind (arith, nat_tests)

-- a token takes what it lists, or all other characters
pub takes-listed : (case : Bool) (c : ℕ) (t : Token) → takes (case_options case) false c t ≡
    (if takes_all_but_listed t then not (lists case c t) else lists case c t)
takes-listed case c (Literal x) = refl
takes-listed case c AnyChar = refl
takes-listed case c AnySequence = refl
takes-listed case c Recursive = refl
takes-listed case c (OneOf e) = refl
takes-listed case c (NoneOf e) = refl

-- if the separator rule excludes `/`, a literal takes what it lists, and `**` takes it
pub separator-listed : (case : Bool) (t : Token) → ((lists case slash t && not (is_bracket t)) || is_recursive t) ≡ takes_separator t
separator-listed case (Literal x) = rw (same-caseless case slash x (omega arith), same-caseless true slash x (omega arith)) (grind arith)
separator-listed case AnyChar = refl
separator-listed case AnySequence = refl
separator-listed case Recursive = refl
separator-listed case (OneOf e) = grind (arith, nat_tests)
separator-listed case (NoneOf e) = grind (arith, nat_tests)

-- if the dot rule excludes `.`, only a literal takes it
pub dot-listed : (case : Bool) (t : Token) → (lists case dot t && not (is_bracket t)) ≡ takes_dot t
dot-listed case (Literal x) = rw (same-caseless case dot x (omega arith), same-caseless true dot x (omega arith)) (and-true _)
dot-listed case AnyChar = refl
dot-listed case AnySequence = refl
dot-listed case Recursive = refl
dot-listed case (OneOf e) = and-false _
dot-listed case (NoneOf e) = and-false _

-- if a token lists no character, the case does not count
pub takes-caseless : (o : MatchOptions) (opening case : Bool) (c : ℕ) (t : Token) → is_plain t ≡ true → takes o opening
    c t ≡ takes (record o { case_sensitive = case }) opening c t
takes-caseless o opening case c (Literal x) none = absurd (false≢true none)
takes-caseless o opening case c AnyChar none = refl
takes-caseless o opening case c AnySequence none = refl
takes-caseless o opening case c Recursive none = refl
takes-caseless o opening case c (OneOf e) none = absurd (false≢true none)
takes-caseless o opening case c (NoneOf e) none = absurd (false≢true none)

module _ (o : MatchOptions) (opening : Bool) where
  -- if no rule excludes a character, the rules do not count
  pub takes-free : (c : ℕ) → is_excluded_separator o c ≡ false → is_excluded_dot o opening c ≡ false → (t : Token)
      → takes o opening c t ≡ takes (case_options o.case_sensitive) false c t
  takes-free c s d (Literal x) = refl
  takes-free c s d AnyChar = rw (s, d) refl
  takes-free c s d AnySequence = rw (s, d) refl
  takes-free c s d Recursive = rw d refl
  takes-free c s d (OneOf e) = rw (s, d) refl
  takes-free c s d (NoneOf e) = rw (s, d) refl

  -- if the separator rule excludes `/`, nothing else counts
  pub takes-slash : o.require_literal_separator ≡ true → (t : Token) → takes o opening slash t ≡ takes_separator t
  takes-slash s (Literal x) = same-caseless o.case_sensitive slash x (omega arith) ∙ sym (same-caseless true slash x (omega arith))
  takes-slash s AnyChar = rw s refl
  takes-slash s AnySequence = rw s refl
  takes-slash s Recursive = rw (and-false (o.require_literal_leading_dot && opening)) refl
  takes-slash s (OneOf e) = rw s refl
  takes-slash s (NoneOf e) = rw s refl

  -- if the dot rule excludes `.`, nothing else counts
  pub takes-dot : o.require_literal_leading_dot ≡ true → opening ≡ true → (t : Token) → takes o opening dot t ≡ takes_dot t
  takes-dot d s (Literal x) = same-caseless o.case_sensitive dot x (omega arith) ∙ sym (same-caseless true dot x (omega arith))
  takes-dot d s AnyChar = rw (d, s) (and-false _)
  takes-dot d s AnySequence = rw (d, s) (and-false _)
  takes-dot d s Recursive = rw (d, s) refl
  takes-dot d s (OneOf e) = rw (d, s) (ap (λ b. b && holds o.case_sensitive dot e) (and-false _))
  takes-dot d s (NoneOf e) = rw (d, s) (ap (λ b. b && not (holds o.case_sensitive dot e)) (and-false _))

  module _ (p : Partition) where
    class-at : (c : ℕ) (s d : Bool) → is_excluded_separator o c ≡ s → is_excluded_dot o opening c ≡ d
        → class_of p o opening c ≡ (if s then 0 else if d then 1 else class_in p c)
    class-at c s d is_s is_d = rw (← is_s, ← is_d) refl

    -- each class is one of the columns
    pub class-below : IsPartition p → (c : ℕ) → class_of p o opening c < columns_of p
    class-below is c = rw (class-at c _ _ refl refl) (cases (is_excluded_separator o c) (is_excluded_dot o opening c))
      where
        cases : (s d : Bool) → (if s then 0 else if d then 1 else class_in p c) < columns_of p
        cases true d = omega (arith, is.least 127 (omega arith))
        cases false true = omega (arith, is.least 127 (omega arith))
        cases false false = (class-bounds p is c).1

    -- a token takes a character exactly when it takes the others of its class
    pub class-cases : (c : ℕ) (t : Token)
        → ((class_of p o opening c ≡ 0) × (takes o opening c t ≡ takes_separator t))
        ⊎ ((class_of p o opening c ≡ 1) × (takes o opening c t ≡ takes_dot t))
        ⊎ ((class_of p o opening c ≡ class_in p c) × (takes o opening c t ≡ takes (case_options o.case_sensitive) false c t))
    class-cases c t =
        ⊎_elim
        (λ s. let (rule, is) = and_parts _ _ s in inl (class-at c true _ s refl, rw (eqb-true c slash is) (takes-slash rule t)))
        (λ s. inr (⊎_elim
        (λ d.
        let (rules, is) = and_parts _ _ d in
        let (rule, opens) = and_parts _ _ rules in
        inl (class-at c false true s d, rw (eqb-true c dot is) (takes-dot rule opens t)))
        (λ d. inr (class-at c false false s d, takes-free c s d t))
        (cases_Bool (is_excluded_dot o opening c))))
        (cases_Bool (is_excluded_separator o c))
