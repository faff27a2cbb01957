-- A text that some pattern of a set matches.
use Rattle.std.proofs.Common.{◌≡◌, ℕ, suc, ◌<◌, ◌↔◌, ◌⊎◌, inl, inr, ◌&&◌, ◌||◌, Bool, true, false, List, [], ◌∷◌}
use Rattle.std.proofs.Common.{length, get_or, IfOk, IsTrue, Result, Ok, Err, refl, sym, ap, ◌∙◌, arith}
use Rattle.std.specs.List.{list_any}
use Rattle.std.specs.Str.{chars, IsUtf8}
use Rattle.std.proofs.lemmas.Bool.Decides.{same_from_decides}
use Rattle.std.proofs.lemmas.List.Folds.{list_any_at}
use Rattle.std.proofs.lemmas.Str.{is_utf8-from_IsUtf8}
use Rattle.glob_text.specs.Text.{Text}
use Rattle.glob_pattern.specs.Computing.Deciding.{is_match}
use Rattle.glob_pattern.specs.declared.options.MatchOptions.{MatchOptions}
use Rattle.glob_pattern.proofs.CallerLemmas.{match_decided}
use Rattle.glob_set.specs.Sets.{Set, MatchesAt, AnyMatch}
use Rattle.globs.specs.Matching.{is_record_match}
use Rattle.globs.specs.Patterns.{is_any_match}
use Rattle.globs.proofs.CopyLemmas.{no_text}

one_of : (a b : Bool) → (a || b) ≡ true → (a ≡ true) ⊎ (b ≡ true)
one_of true b e = inl refl
one_of false b e = inr e

module _ (o : MatchOptions) (text : Text) where
  abbrev takes : Text → Bool
  takes pattern = is_match o (chars pattern) (chars text)

  abbrev Place : List Text → Type 0
  Place ps = (n : ℕ) × (n < length ps) × (takes (get_or ps n []) ≡ true)

  first_place : (p : Text) (ps : List Text) → (list_any takes ps ≡ true → Place ps) →
      (takes p ≡ true) ⊎ (list_any takes ps ≡ true) → Place (p ∷ ps)
  first_place p ps later (inl here) = (0, omega arith, here)
  first_place p ps later (inr below) = let (n, less, takes_it) = later below in (suc n, omega (arith, less), takes_it)

  place : (ps : List Text) → list_any takes ps ≡ true → Place ps
  place [] e = absurd (cc)
  place (p ∷ ps) e = first_place p ps (place ps) (one_of _ _ e)

-- the answer of a set is the computed one
pub any_match_same : (set : Set) (text : Text) (found : Bool) → IsTrue found ↔ AnyMatch set.options set.patterns text →
    found ≡ is_any_match set text
unfolding is_any_match AnyMatch MatchesAt
any_match_same set text found answer = same_from_decides found (list_any (takes set.options text) set.patterns) answer (
  λ e. let (n, below, takes_it) = place set.options text set.patterns e in
      (n, (below, (match_decided set.options _ (chars text)).0 takes_it)),
  λ (n, at). list_any_at (takes set.options text) set.patterns n [] at.0 ((match_decided set.options _ (chars text)).1 at.1),
)

-- a record is UTF-8 and one of the patterns matches it
pub record_matches : {E : Type 0} (r : Result Bool E) (set : Set) (text bytes : Text) → text ≡ bytes → IsUtf8 bytes →
    IfOk r (λ yes. yes ≡ is_any_match set text) → IfOk r (λ yes. yes ≡ is_record_match set bytes)
record_matches (Ok found) set text bytes same utf8 known = known ∙ ap (is_any_match set) same ∙
    sym (ap (λ b. b && is_any_match set bytes) (is_utf8-from_IsUtf8 bytes utf8))
record_matches (Err e) set text bytes same utf8 known = tt

-- bytes that are not UTF-8 match nothing
pub no_record : (set : Set) (bytes : Text) → ¬ (IsUtf8 bytes) → false ≡ is_record_match set bytes
no_record set bytes fails = sym (ap (λ b. b && is_any_match set bytes) (no_text bytes fails))
