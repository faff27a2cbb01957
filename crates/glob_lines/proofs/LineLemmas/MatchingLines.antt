-- The kept records, and those that a pattern matches: there is exactly one list of them.
use Rattle.std.proofs.Common.{◌≡◌, ◌↔◌, ℕ, ◌⊎◌, ◌&&◌, IsTrue, Result, Ok, Err, IfOk, inl, inr, Bool, true, false, List}
use Rattle.std.proofs.Common.{[], refl, sym, chars, append-nil}
use Rattle.std.specs.Prelude.{Option, None, Some, IfSome}
use Rattle.std.specs.Str.{is_utf8}
use Rattle.std.specs.Io.KnownBytes.{Appends}
use Rattle.std.proofs.lemmas.Bool.{false≢true}
use Rattle.glob_pattern.specs.Computing.Deciding.{is_match}
use Rattle.glob_lines.specs.Lines.{RecordMatches, record_matches, Selected, AreKept, records_of, WritesSomeKept}
use Rattle.glob_pattern.specs.declared.options.MatchOptions.{MatchOptions}
use Rattle.glob_pattern.proofs.MatchingLemmas.Computed.{match_decided}
use Rattle.glob_lines.proofs.LineLemmas.KeptLines.{AreKept-exists}

both_true : (a b : Bool) → (a && b) ≡ true → (a ≡ true) × (b ≡ true)
both_true true b e = (refl, e)
both_true false b e = absurd (false≢true e)

both_are : (a b : Bool) → a ≡ true → b ≡ true → (a && b) ≡ true
both_are true b first second = second
both_are false b first second = absurd (false≢true first)

-- a record is UTF-8 and matches exactly when the computation says so
pub matches_by_record : (o : MatchOptions) (pattern one : List ℕ) → Selected (record_matches o pattern) one → RecordMatches o pattern one
matches_by_record o pattern one e =
    let (utf8, holds) = both_true (is_utf8 one) (is_match o (chars pattern) (chars one)) e in
    (utf8, (match_decided o (chars pattern) (chars one)).0 holds)

pub record_by_matches : (o : MatchOptions) (pattern one : List ℕ) → RecordMatches o pattern one → Selected (record_matches o pattern) one
record_by_matches o pattern one (utf8, matches) =
    both_are (is_utf8 one) (is_match o (chars pattern) (chars one)) utf8 ((match_decided o (chars pattern) (chars one)).1 matches)

same_answer : (a b : Bool) → (a ≡ true → b ≡ true) → (b ≡ true → a ≡ true) → a ≡ b
same_answer true true to from = refl
same_answer true false to from = absurd (false≢true (to refl))
same_answer false true to from = absurd (false≢true (from refl))
same_answer false false to from = refl

-- an answer that is `true` exactly when the record matches equals the computed one
pub IfOk-computed : {E : Type 0} (r : Result Bool E) (o : MatchOptions) (pattern one : List ℕ) → IfOk r
    (λ b. IsTrue b ↔ RecordMatches o pattern one) → IfOk r (λ b. b ≡ record_matches o pattern one)
IfOk-computed (Ok b) o pattern one (to, from) =
    same_answer b (record_matches o pattern one) (λ t. record_by_matches o pattern one (to t))
    (λ t. from (matches_by_record o pattern one t))
IfOk-computed (Err e) o pattern one known = tt

true_decided : (b : Bool) → (b ≡ true) ⊎ (¬ (b ≡ true))
true_decided true = inl refl
true_decided false = inr false≢true

-- whether a record is selected is decided
pub selected_decided : (selects : List ℕ → Bool) (one : List ℕ) → Selected selects one ⊎ (¬ (Selected selects one))
selected_decided selects one = true_decided (selects one)

decided_as : {P Q : Type 0} → (P → Q) → (Q → P) → P ⊎ (¬ P) → Q ⊎ (¬ Q)
decided_as to from (inl p) = inl (to p)
decided_as to from (inr not_p) = inr (λ q. not_p (from q))

-- whether a record matches is decided
pub record_decided : (o : MatchOptions) (pattern one : List ℕ) → RecordMatches o pattern one ⊎ (¬ (RecordMatches o pattern one))
record_decided o pattern one =
    decided_as (matches_by_record o pattern one) (record_by_matches o pattern one) (selected_decided (record_matches o pattern) one)

appends_none : (known : Option (List ℕ)) → Appends known known []
appends_none None = tt
appends_none (Some xs) = sym (append-nil xs)

-- what holds of each value holds of the one that there is
pub IfSome-each : {X : Type 0} (o : Option X) (P : X → Type 0) → ((x : X) → P x) → IfSome o P
IfSome-each None P each = tt
IfSome-each (Some x) P each = each x

module _ (end : ℕ) (P : List ℕ → Type 0) (decided : (one : List ℕ) → P one ⊎ (¬ (P one))) where
  -- there are the records that are kept
  pub kept_records : (input : List ℕ) → (kept : List (List ℕ)) × AreKept P (records_of end input) kept
  kept_records input = AreKept-exists P decided (records_of end input)

  -- writing nothing is writing the first zero records
  pub some_records-none : (input : List ℕ) (known : Option (List ℕ)) → WritesSomeKept end P input known known
  some_records-none input known =
      let (kept, are) = kept_records input in (kept, are, (0, appends_none known))
