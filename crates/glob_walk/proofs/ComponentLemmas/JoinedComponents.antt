-- Components joined by separators match names joined by separators exactly when the components take the names.
use Rattle.std.proofs.Common.{◌≡◌, ◌≢◌, ℕ, zero, suc, ◌+◌, ◌-◌, ⊎_elim, Bool, true, false, not, ◌&&◌, ◌||◌, ◌==◌, List}
use Rattle.std.proofs.Common.{[], ◌∷◌, length, slice_index, refl, sym, ap, ap₂, ◌∙◌, arith}
use Rattle.std.specs.List.{list_all, join_with_byte}
use Rattle.std.specs.Prelude.{Decides}
use Rattle.std.specs.Path.{has_no_slash}
use Rattle.std.proofs.lemmas.Bool.{false≢true, true≢false, both_ways, and_parts, and_from, not-true, not_from_false}
use Rattle.std.proofs.lemmas.Bool.{or_cases, eqb-true, eq-eqb, ne_eqb, cond-true, cond-false}
use Rattle.std.proofs.lemmas.Slice.Eq.{bytes_eq-Decides}
use Rattle.glob_text.specs.Characters.{slash}
use Rattle.glob_pattern.specs.Grammar.Characters.{star}
use Rattle.glob_text.specs.Text.{Text, Has}
use Rattle.glob_pattern.specs.Grammar.Tokens.{Token, tokens_of_units}
use Rattle.glob_pattern.specs.Grammar.Units.{UnitAt, UnitsBetween, HasUnits}
use Rattle.glob_pattern.specs.Computing.Deciding.{tokens_match, match_of_reading, is_match}
use Rattle.glob_pattern.specs.declared.options.MatchOptions.{MatchOptions}
use Rattle.glob_pattern.specs.declared.token.Token.TheVariants.{Literal, AnyChar, AnySequence, Recursive, OneOf, NoneOf}
use Rattle.glob_pattern.proofs.GrammarLemmas.Accepting.{units_of_accepted}
use Rattle.glob_pattern.proofs.GrammarLemmas.Reading.{reading_of-HasTokens}
use Rattle.glob_walk.proofs.MatchLemmas.Folded.{folded_match_same}
use Rattle.glob_pattern.proofs.MatchingLemmas.Deciding.{Decides-TokensMatch}
use Rattle.glob_pattern.proofs.GrammarLemmas.WrittenUnits.{UnitAt-plain}
use Rattle.glob_walk.proofs.ComponentLemmas.Fits.{fits}
use Rattle.glob_pattern.specs.Matching.Components.{is_recursive, is_open, run_before, name_before, takes_names}
use Rattle.glob_pattern.specs.Matching.Components.{with_separator_rule, IsComponent, AreComponents}
use Rattle.glob_walk.proofs.ComponentLemmas.Parts.{is_inner, Part, Levels, Level, is_level, joined_tokens, reaches, AreParts}
use Rattle.glob_walk.proofs.ComponentLemmas.Fits.{tokens_match-fits}
use Rattle.glob_walk.proofs.ComponentLemmas.LevelByLevel.{level_by_level}
use Rattle.glob_walk.proofs.ComponentLemmas.JoinedUnits.{joined-units}
use Rattle.glob_walk.proofs.ComponentLemmas.SeparatorRule.{separator_rule_free}
use Rattle.glob_text.specs.Pieces.{is_empty}

-- two tests of equivalent facts
same_test : {P Q : Type 0} (b c : Bool) → Decides b P → Decides c Q → (P → Q) → (Q → P) → b ≡ c
same_test true c f g to from = sym (g.1 (to (f.0 refl)))
same_test false true f g to from = absurd (false≢true (f.1 (from (g.0 refl))))
same_test false false f g to from = refl

-- an accepted text matches what its units match
pub is_match-units : (o : MatchOptions) (pattern text : Text) (units : List Token) → HasUnits pattern units
    → is_match o pattern text ≡ fits o units true text
unfolding is_match
is_match-units o pattern text units has =
    ap (λ read. match_of_reading o read text) (reading_of-HasTokens pattern (tokens_of_units units) (units, has, refl))
    ∙ same_test (tokens_match o (tokens_of_units units) text) (tokens_match o units text) (Decides-TokensMatch o
    (tokens_of_units units) text) (Decides-TokensMatch o units text)
    (folded_match_same o units text).1 (folded_match_same o units text).0
    ∙ tokens_match-fits o units text

no_slash_at : (t : Text) (k c : ℕ) → has_no_slash t ≡ true → Has t k c → c ≢ slash
no_slash_at [] k c h at e = omega (arith, at.0)
no_slash_at (x ∷ xs) zero c h at e = both_ways (x == slash) (not-true (x == slash) (and_parts (not (x == slash))
    (has_no_slash xs) h).0) (eq-eqb x slash (at.1 ∙ e))
no_slash_at (x ∷ xs) (suc k) c h at e = no_slash_at xs k c (and_parts (not (x == slash)) (has_no_slash xs) h).1
    (omega (arith, at.0), at.1) e

two_stars : (t : Text) → Has t 0 star → Has t 1 star → 2 ≡ length t → t ≡ star ∷ star ∷ []
two_stars [] a b l = absurd (omega arith)
two_stars (x ∷ []) a b l = absurd (omega arith)
two_stars (x ∷ y ∷ []) a b l = ap₂ (λ u v. u ∷ v ∷ []) a.1 b.1
two_stars (x ∷ y ∷ z ∷ zs) a b l = absurd (omega arith)

-- a unit of a component other than `**`
inner-unit : (t : Text) → has_no_slash t ≡ true → (t ≢ star ∷ star ∷ []) → (f : ℕ) (u : Token) (e : ℕ) → UnitAt t f u e → is_inner u ≡ true
inner-unit t plain other f (Literal c) e unit = not_from_false (c == slash) (ne_eqb c slash (no_slash_at t f c plain unit.0))
inner-unit t plain other f AnyChar e unit = refl
inner-unit t plain other f AnySequence e unit = refl
inner-unit t plain other f Recursive e unit = ⊎_elim
    (λ first.
    let z : f ≡ 0 = eqb-true f 0 first in
    ⊎_elim
    (λ last. absurd (other (two_stars t (unit.0.0 0 (omega arith) (omega arith)) (unit.0.0 1 (omega arith) (omega arith)) (omega arith))))
    (λ more. absurd (no_slash_at t (f + 2) slash plain more.1 refl)) unit.2)
    (λ after. let at = unit.0.0 f (omega arith) (omega arith) in absurd (no_slash_at t (f - 1) slash plain
    (omega arith, eqb-true (slice_index t (f - 1)) slash after) refl))
    (or_cases (f == 0) (slice_index t (f - 1) == slash) unit.1)
inner-unit t plain other f (OneOf entries) e unit = refl
inner-unit t plain other f (NoneOf entries) e unit = refl

inner-units : (t : Text) → has_no_slash t ≡ true → (t ≢ star ∷ star ∷ []) → (f : ℕ) (us : List Token) (e : ℕ)
    → UnitsBetween t f us e → list_all is_inner us ≡ true
inner-units t plain other f [] e units = refl
inner-units t plain other f (u ∷ us) e (m, unit, units) =
    and_from (is_inner u) (list_all is_inner us) (inner-unit t plain other f u m unit) (inner-units t plain other m us e units)

level_from : (t : Text) (us : List Token) → is_empty t ≡ false → HasUnits t us → list_all is_inner us ≡ true → is_level (Level us) ≡ true
level_from [] [] some has inner = absurd (true≢false some)
level_from (x ∷ xs) [] some has inner = absurd (omega (arith, has))
level_from t (u ∷ us) some has inner = inner

-- two ways to take names agree on names without separators
abbrev Agree : (List Text → Bool) → (List Text → Bool) → Type 0
Agree f g = (names : List Text) → list_all has_no_slash names ≡ true → f names ≡ g names

run_before-agree : (o : MatchOptions) (f g : List Text → Bool) → Agree f g → Agree (run_before o f) (run_before o g)
run_before-agree o f g same [] flat = refl
run_before-agree o f g same (n ∷ ns) flat =
    ap₂ (λ x y. x || (is_open o n && y)) (same (n ∷ ns) flat)
    (run_before-agree o f g same ns (and_parts (has_no_slash n) (list_all has_no_slash ns) flat).1)

name_before-agree : (o : MatchOptions) (t : Text) (units : List Token) → HasUnits t units → (f g : List Text → Bool) → Agree f g
    → Agree (name_before (fits (with_separator_rule o) units true) f) (name_before (is_match o t) g)
name_before-agree o t units has f g same [] flat = refl
name_before-agree o t units has f g same (n ∷ ns) flat =
    let both = and_parts (has_no_slash n) (list_all has_no_slash ns) flat in
    ap₂ (λ x y. x && y)
    (sym (is_match-units (with_separator_rule o) t n units has) ∙ separator_rule_free o t n both.0)
    (same ns both.1)

-- a component's part takes what the component takes
record HasPart (o : MatchOptions) (t : Text) : Type 0 where
  part : Part
  is : (ts : List Text) (ps : List Part) → AreParts ts ps → AreParts (t ∷ ts) (part ∷ ps)
  level : is_level part ≡ true
  last : Agree (reaches o (part ∷ [])) (takes_names o (is_match o) (t ∷ []))
  before : (u : Text) (us : List Text) (p : Part) (ps : List Part) → Agree (reaches o (p ∷ ps)) (takes_names o (is_match o) (u ∷ us))
      → Agree (reaches o (part ∷ p ∷ ps)) (takes_names o (is_match o) (t ∷ u ∷ us))

has_part : (o : MatchOptions) (t : Text) → IsComponent t → HasPart o t
has_part o t (accepted, flat, some) = by_test (is_recursive t) refl
  where
    nothing : Agree (reaches o []) (takes_names o (is_match o) [])
    nothing [] h = refl
    nothing (n ∷ ns) h = refl

    by_test : (b : Bool) → is_recursive t ≡ b → HasPart o t
    by_test true e = record {
      part = Levels;
      is = λ ts ps are. ((bytes_eq-Decides t (star ∷ star ∷ [])).0 e, are);
      level = refl;
      last = λ names h. sym (cond-true (is_recursive t) _ _ e);
      before = λ u us p ps same names h.
          run_before-agree o (reaches o (p ∷ ps)) (takes_names o (is_match o) (u ∷ us)) same names h ∙ sym
          (cond-true (is_recursive t) _ _ e);
    }
    by_test false e =
        let other : t ≢ star ∷ star ∷ [] = λ same. both_ways (is_recursive t) e ((bytes_eq-Decides t (star ∷ star ∷ [])).1 same) in
        let has = units_of_accepted t accepted in
        let inner = inner-units t flat other 0 has.0 (length t) has.1 in record {
          part = Level has.0;
          is = λ ts ps are. (has.1, flat, inner, are);
          level = level_from t has.0 some has.1 inner;
          last = λ names h.
              name_before-agree o t has.0 has.1 (reaches o []) (takes_names o (is_match o) []) nothing names h
              ∙ sym (cond-false (is_recursive t) _ _ e);
          before = λ u us p ps same names h.
              name_before-agree o t has.0 has.1 (reaches o (p ∷ ps)) (takes_names o (is_match o) (u ∷ us)) same names h
              ∙ sym (cond-false (is_recursive t) _ _ e);
        }

-- the parts of components take what the components take
record HasParts (o : MatchOptions) (ts : List Text) : Type 0 where
  first : Part
  others : List Part
  are : AreParts ts (first ∷ others)
  levels : list_all is_level (first ∷ others) ≡ true
  takes : Agree (reaches o (first ∷ others)) (takes_names o (is_match o) ts)

has_parts : (o : MatchOptions) (t : Text) (ts : List Text) → AreComponents (t ∷ ts) → HasParts o (t ∷ ts)
has_parts o t [] (is, all) =
    let here = has_part o t is in
    record {
      first = here.part;
      others = [];
      are = here.is [] [] tt;
      levels = and_from (is_level here.part) true
          here.level refl;
      takes = here.last;
    }
has_parts o t (u ∷ us) (is, all) =
    let here = has_part o t is in
    let next = has_parts o u us all in record {
      first = here.part;
      others = next.first ∷ next.others;
      are = here.is (u ∷ us) (next.first ∷ next.others) next.are;
      levels = and_from (is_level here.part) (list_all is_level (next.first ∷ next.others)) here.level next.levels;
      takes = here.before u us next.first next.others next.takes;
    }

-- Components joined by separators match names joined by separators exactly when the components take the names.
pub joined_takes : (o : MatchOptions) (t : Text) (ts : List Text) (n : Text) (ns : List Text) → AreComponents (t ∷ ts)
    → list_all has_no_slash (n ∷ ns) ≡ true
    → is_match (with_separator_rule o) (join_with_byte slash (t ∷ ts)) (join_with_byte slash (n ∷ ns)) ≡ takes_names o
    (is_match o) (t ∷ ts) (n ∷ ns)
joined_takes o t ts n ns all flat =
    let found = has_parts o t ts all in
    let first_answer : Text = join_with_byte slash (t ∷ ts) in
    is_match-units (with_separator_rule o) first_answer (join_with_byte slash (n ∷ ns)) (joined_tokens (found.first ∷ found.others))
    (joined-units first_answer t ts (found.first ∷ found.others) 0 found.are refl (omega arith) refl)
    ∙ level_by_level o found.first found.others found.levels n ns flat ∙ found.takes (n ∷ ns) flat

-- The same after a separator in front of both.
pub rooted_takes : (o : MatchOptions) (t : Text) (ts : List Text) (n : Text) (ns : List Text) → AreComponents (t ∷ ts)
    → list_all has_no_slash (n ∷ ns) ≡ true
    → is_match (with_separator_rule o) (slash ∷ join_with_byte slash (t ∷ ts)) (slash ∷ join_with_byte slash (n ∷ ns))
    ≡ takes_names o (is_match o) (t ∷ ts) (n ∷ ns)
rooted_takes o t ts n ns all flat =
    let found = has_parts o t ts all in
    let rest : Text = join_with_byte slash (t ∷ ts) in
    let first_answer : Text = slash ∷ rest in
    is_match-units (with_separator_rule o) first_answer (slash ∷ join_with_byte slash (n ∷ ns))
    (Literal slash ∷ joined_tokens (found.first ∷ found.others)) (
      1,
      UnitAt-plain first_answer rest 0 slash ((λ x. omega arith), (λ x. omega arith), (λ x. omega arith)) refl,
      joined-units first_answer t ts (found.first ∷ found.others) 1 found.are refl (omega arith) refl,
    )
    ∙ level_by_level o found.first found.others found.levels n ns flat ∙ found.takes (n ∷ ns) flat
