-- A literal component matches the names equal to it.
use Rattle.std.proofs.Common.{◌≡◌, ◌↔◌, Bool, true, false, not, ◌&&◌, [], ◌∷◌, None, Result, Ok, Err, IsTrue, refl, ap, sym, ◌∙◌}
use Rattle.std.specs.Prelude.{IfOk}
use Rattle.std.specs.Bool.{one_answer}
use Rattle.std.specs.Str.{chars, IsUtf8}
use Rattle.glob_pattern.specs.Grammar.Characters.{star}
use Rattle.glob_text.specs.Text.{Text}
use Rattle.glob_text.specs.Characters.{dot}
use Rattle.glob_text.specs.Pieces.{begins_with}
use Rattle.glob_pattern.specs.Matching.Texts.{Matches}
use Rattle.glob_pattern.specs.Computing.Deciding.{is_match}
use Rattle.glob_pattern.specs.Computing.Reading.{units_from}
use Rattle.glob_pattern.specs.declared.options.MatchOptions.{MatchOptions}
use Rattle.glob_pattern.proofs.GrammarLemmas.Accepted.{one_reading}
use Rattle.glob_pattern.proofs.MatchingLemmas.Computed.{match_decided}
use Rattle.glob_pattern.proofs.MatchingLemmas.PlainPatterns.{plain_matches_same}
use Rattle.glob_walk.specs.Components.{component_kind, Recursive, is_literal, is_recursive, matches_name}
use Rattle.glob_walk.specs.Private.Forms.{same_texts, takes_name, text_fault}
use Rattle.glob_walk.proofs.GoalLemmas.Characters.{literal-chars}
use Rattle.glob_walk.proofs.ListingLemmas.ComponentKinds.{recursive_is, kind-Recursive}
use Rattle.glob_walk.proofs.WalkLemmas.SameTexts.{Decides-same_texts}

-- `**` does not begin with a dot
pub undotted_kind : (t : Text) → component_kind t ≡ Recursive → begins_with dot t ≡ false
undotted_kind t h = ap (begins_with dot) (recursive_is t (kind-Recursive t h))

-- a component other than `**` takes the names that it matches
pub takes_same : (o : MatchOptions) (t name : Text) → is_recursive t ≡ false → matches_name o t name ≡ takes_name o t name
takes_same o t name other = ap (λ b. not b && matches_name o t name) (sym other)

-- `**` has no fault
stars_fault : text_fault (star ∷ star ∷ []) ≡ None
unfolding chars units_from
stars_fault = refl

pub text_fault-recursive : (t : Text) → is_recursive t ≡ true → text_fault t ≡ None
text_fault-recursive t h = ap text_fault (recursive_is t h) ∙ stars_fault

-- a pattern returns what the decider returns
same_answer : (o : MatchOptions) (pattern name : Text) (b : Bool) → (IsTrue b ↔ Matches o (chars pattern) (chars name))
    → b ≡ matches_name o pattern name
same_answer o pattern name b h = one_answer b (is_match o (chars pattern) (chars name)) (h.0, h.1) (match_decided o
    (chars pattern) (chars name))

pub matches_name-result : {E : Type 0} (o : MatchOptions) (pattern name : Text) (r : Result Bool E) → IfOk r
    (λ b. IsTrue b ↔ Matches o (chars pattern) (chars name))
    → IfOk r (λ b. b ≡ matches_name o pattern name)
matches_name-result o pattern name (Ok b) h = same_answer o pattern name b h
matches_name-result o pattern name (Err e) h = h

-- the comparison with a literal component returns the same
pub matches_name-literal : (o : MatchOptions) (component name : Text) → IsUtf8 component → IsUtf8 name → is_literal component ≡ true
    → same_texts o.case_sensitive name component ≡ matches_name o component name
matches_name-literal o component name utf8 named literal =
    let decides = Decides-same_texts o.case_sensitive name component named utf8 in
    let both = plain_matches_same one_reading o (chars component) (chars name) (literal-chars component utf8 literal) in
    same_answer o component name (same_texts o.case_sensitive name component) ((λ h. both.1 (decides.0 h)), (λ m. decides.1 (both.0 m)))
