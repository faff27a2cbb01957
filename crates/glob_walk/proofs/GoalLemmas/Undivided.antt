-- The undivided pattern matches the text of names exactly when the components take the names.
use Rattle.std.proofs.Common.{◌≡◌, Bool, true, false, cond, not, ◌&&◌, ◌||◌, ◌==◌, List, [], ◌∷◌, length, drop, map}
use Rattle.std.proofs.Common.{Option, Some, None, refl, sym, ap, ap₂, subst, ◌∙◌, arith}
use Rattle.std.specs.Prelude.{Result, Ok, Err, is_none}
use Rattle.std.specs.Option.{option_or}
use Rattle.std.specs.Result.{result_err}
use Rattle.std.specs.List.{list_all, join_with_byte}
use Rattle.std.specs.Path.{has_no_slash}
use Rattle.std.specs.Str.{chars, IsUtf8}
use lib.Utf8.{encodes}
use Rattle.std.proofs.lemmas.Str.{encodes-chars, chars-nil}
use Rattle.std.proofs.lemmas.Bool.{false≢true, true≢false, both_ways, and_parts, and_from, not-true, eqb-true, cond-true, cond-false}
use Rattle.std.proofs.lemmas.List.Splits.{length-slice_split}
use Rattle.glob_text.specs.Characters.{slash, dot}
use Rattle.glob_text.specs.Text.{Text}
use Rattle.glob_text.specs.Pieces.{is_empty, begins_with}
use Rattle.glob_pattern.specs.Grammar.Tokens.{Token}
use Rattle.glob_pattern.specs.Grammar.Units.{IsAccepted}
use Rattle.glob_pattern.specs.Grammar.Faults.{Fault}
use Rattle.glob_pattern.specs.Computing.Reading.{reading_of}
use Rattle.glob_pattern.specs.Computing.Deciding.{is_match}
use Rattle.glob_walk.specs.Components.{without_root, without_end_separator, components, is_literal}
use Rattle.glob_walk.specs.Components.{is_recursive, is_current_or_parent, matches_name, first_fault, walk_fault}
use Rattle.glob_walk.specs.Goal.{is_plain_component, are_plain, is_plain, text_below, matches_undivided}
use Rattle.glob_pattern.specs.declared.options.MatchOptions.{MatchOptions}
use Rattle.glob_pattern.proofs.MatchingLemmas.Computed.{accepted_by_reading}
use Rattle.glob_pattern.specs.Matching.Components.{is_open, run_to_end, run_before, name_before, takes_names}
use Rattle.glob_pattern.specs.Matching.Components.{with_separator_rule, AreComponents}
use Rattle.glob_walk.proofs.ComponentLemmas.WholeNames.{is_open-begins}
use Rattle.glob_walk.proofs.ComponentLemmas.JoinedComponents.{joined_takes, rooted_takes}
use Rattle.glob_walk.proofs.GoalLemmas.PatternParts.{components-utf8, components-flat, components-joined, without_end-rooted}
use Rattle.glob_walk.proofs.GoalLemmas.Characters.{dot-chars, recursive-chars, no_slash-chars, AllUtf8, chars-joined, chars-slash}

-- the options by which a walk's pattern matches its goal
abbrev goal_rules : MatchOptions → MatchOptions
goal_rules o = record o { case_sensitive = true; require_literal_separator = true }

-- components take the same names by characters as by bytes
open-chars : (o : MatchOptions) (n : Text) → IsUtf8 n → is_open o (chars n) ≡ is_open o n
open-chars o n utf8 =
    is_open-begins o (chars n) ∙ ap (λ b. not (o.require_literal_leading_dot && b)) (dot-chars n utf8) ∙ sym (is_open-begins o n)

run_to_end-chars : (o : MatchOptions) (ns : List Text) → AllUtf8 ns → run_to_end o (map chars ns) ≡ run_to_end o ns
run_to_end-chars o [] all = refl
run_to_end-chars o (n ∷ []) all = open-chars o n all.0
run_to_end-chars o (n ∷ m ∷ ns) all = ap₂ (λ x y. x && y) (open-chars o n all.0) (run_to_end-chars o (m ∷ ns) all.1)

run_before-chars : (o : MatchOptions) (next other : List Text → Bool) → ((ns : List Text) → AllUtf8 ns → next
    (map chars ns) ≡ other ns) → (ns : List Text) → AllUtf8 ns → run_before o next (map chars ns) ≡ run_before o other
    ns
run_before-chars o next other same [] all = refl
run_before-chars o next other same (n ∷ ns) all =
    ap₂ (λ x y. x || y) (same (n ∷ ns) all) (ap₂ (λ x y. x && y) (open-chars o n all.0) (run_before-chars o next other same ns all.1))

name_before-chars : (o : MatchOptions) (t : Text) (next other : List Text → Bool) → ((ns : List Text) → AllUtf8 ns
    → next (map chars ns) ≡ other ns) → (ns : List Text) → AllUtf8 ns → name_before (is_match o (chars t)) next
    (map chars ns) ≡ name_before (matches_name o t) other ns
name_before-chars o t next other same [] all = refl
name_before-chars o t next other same (n ∷ ns) all = ap (λ x. is_match o (chars t) (chars n) && x) (same ns all.1)

pub takes_names-chars : (o : MatchOptions) (ts : List Text) → AllUtf8 ts → (ns : List Text) → AllUtf8 ns
    → takes_names o (is_match o) (map chars ts) (map chars ns) ≡ takes_names o (matches_name o) ts ns
takes_names-chars o [] utf8 [] all = refl
takes_names-chars o [] utf8 (n ∷ ns) all = refl
takes_names-chars o (t ∷ []) (utf8, rest) ns all = by_test (is_recursive t) refl
  where
    nothing : (ms : List Text) → AllUtf8 ms → takes_names o (is_match o) [] (map chars ms) ≡ takes_names o (matches_name o) [] ms
    nothing [] both = refl
    nothing (m ∷ ms) both = refl

    by_test : (b : Bool) → is_recursive t ≡ b → takes_names o (is_match o) (chars t ∷ []) (map chars ns) ≡ takes_names
        o (matches_name o) (t ∷ []) ns
    by_test true e = rw (recursive-chars t utf8, e) (run_to_end-chars o ns all)
    by_test false e = rw (recursive-chars t utf8, e) (name_before-chars o t (takes_names o (is_match o) [])
        (takes_names o (matches_name o) []) nothing ns all)
takes_names-chars o (t ∷ u ∷ us) (utf8, rest) ns all = by_test (λ ms both. takes_names-chars o (u ∷ us) rest ms both) (is_recursive t) refl
  where
    by_test : ((ms : List Text) → AllUtf8 ms → takes_names o (is_match o) (map chars (u ∷ us)) (map chars ms) ≡
        takes_names o (matches_name o) (u ∷ us) ms)
        → (b : Bool) → is_recursive t ≡ b → takes_names o (is_match o) (map chars (t ∷ u ∷ us)) (map chars ns) ≡
        takes_names o (matches_name o) (t ∷ u ∷ us) ns
    by_test next true e = rw (recursive-chars t utf8, e) (run_before-chars o (takes_names o (is_match o)
        (map chars (u ∷ us))) (takes_names o (matches_name o) (u ∷ us)) next ns all)
    by_test next false e = rw (recursive-chars t utf8, e) (name_before-chars o t (takes_names o (is_match o)
        (map chars (u ∷ us))) (takes_names o (matches_name o) (u ∷ us)) next ns all)

-- components without a fault are accepted
accepted-from_none : (t : Text) → is_none (result_err (reading_of t)) ≡ true → IsAccepted t
accepted-from_none t h = by_reading (reading_of t) refl h
  where
    by_reading : (read : Result (List Token) Fault) → reading_of t ≡ read → is_none (result_err read) ≡ true → IsAccepted t
    by_reading (Ok tokens) e h = accepted_by_reading t tokens e
    by_reading (Err fault) e h = absurd (false≢true h)

none-parts : {X : Type 0} (a b : Option X) → is_none (option_or a b) ≡ true → (is_none a ≡ true) × (is_none b ≡ true)
none-parts None b h = (refl, h)
none-parts (Some x) b h = absurd (false≢true h)

are_components : (after : Bool) (ts : List Text) → AllUtf8 ts → list_all has_no_slash ts ≡ true → are_plain after ts ≡
    true → is_none (first_fault ts) ≡ true → AreComponents (map chars ts)
are_components after [] utf8 flat plain none = tt
are_components after (t ∷ ts) utf8 flat plain none =
    let flats = and_parts (has_no_slash t) (list_all has_no_slash ts) flat in
    let plains = and_parts (is_plain_component after t) (are_plain (is_recursive t) ts) plain in
    let nones = none-parts (result_err (reading_of (chars t))) (first_fault ts) none in
    let accepted = accepted-from_none (chars t) nones.0 in
    let inner = and_parts (not (is_empty t) && not (is_current_or_parent t)) (is_literal t || not (begins_with dot t) || after) plains.0 in
    let some = not-true (is_empty t) (and_parts (not (is_empty t)) (not (is_current_or_parent t)) inner.0).0 in (
      (accepted, no_slash-chars t utf8.0 ∙ flats.0, some-chars (chars t) refl some),
      are_components (is_recursive t) ts
          utf8.1 flats.1 plains.1 nones.1,
    )
  where
    nothing : (t : Text) → t ≡ [] → is_empty t ≡ true
    nothing t e = ap is_empty e

    some-chars : (cs : Text) → chars t ≡ cs → is_empty t ≡ false → is_empty cs ≡ false
    some-chars [] e h = absurd (both_ways (is_empty t) h (nothing t (sym (encodes-chars t utf8.0) ∙ ap encodes e)))
    some-chars (c ∷ cs) e h = refl

-- The undivided pattern matches the text of names after the start exactly when the components take the names.
pub undivided_takes : (o : MatchOptions) → o.case_sensitive ≡ true → (pattern : Text) → IsUtf8 pattern → is_plain
    pattern ≡ true → (n : Text) (ns : List Text) → AllUtf8 (n ∷ ns) → list_all has_no_slash (n ∷ ns) ≡ true
    → matches_undivided o pattern (text_below pattern (n ∷ ns)) ≡ takes_names o (matches_name o) (components pattern) (n ∷ ns)
unfolding is_plain walk_fault
undivided_takes o case pattern utf8 plain n ns names flat =
    let both = and_parts (is_none (walk_fault pattern)) (are_plain false (components pattern)) plain in
    let nones = none-parts (result_err (reading_of (chars pattern))) (first_fault (components pattern)) both.0 in
    by_components (components pattern) refl (components-utf8 pattern utf8) (are_components false (components pattern)
    (components-utf8 pattern utf8) (components-flat pattern) both.1 nones.1)
  where
    -- if case-sensitive, the goal's options are the walk's with the separator rule
    ruled : goal_rules o ≡ with_separator_rule o
    ruled = ap (λ b. record o { case_sensitive = b; require_literal_separator = true }) (sym case)

    flat-chars : (ns : List Text) → AllUtf8 ns → list_all has_no_slash ns ≡ true → list_all has_no_slash (map chars ns) ≡ true
    flat-chars [] utf8 h = refl
    flat-chars (m ∷ ms) utf8 h =
        let both = and_parts (has_no_slash m) (list_all has_no_slash ms) h in
        and_from (has_no_slash (chars m)) (list_all has_no_slash (map chars ms)) (no_slash-chars m utf8.0 ∙ both.0)
        (flat-chars ms utf8.1 both.1)

    by_root : (t : Text) (ts : List Text) → components pattern ≡ t ∷ ts → AllUtf8 (t ∷ ts) → AreComponents
        (map chars (t ∷ ts)) → (b : Bool) → begins_with slash pattern ≡ b
        → is_match (goal_rules o) (chars (without_end_separator pattern))
        (chars (cond b (slash ∷ join_with_byte slash (n ∷ ns)) (join_with_byte slash (n ∷ ns)))) ≡ takes_names o
        (is_match o) (map chars (t ∷ ts)) (map chars (n ∷ ns))
    by_root t ts e all are true root =
        ap₂ (is_match (goal_rules o))
        (ap chars (whole pattern root e) ∙ chars-slash (join_with_byte slash (t ∷ ts)) ∙ ap (λ cs. slash ∷ cs) (chars-joined (t ∷ ts) all))
        (chars-slash (join_with_byte slash (n ∷ ns)) ∙ ap (λ cs. slash ∷ cs) (chars-joined (n ∷ ns) names))
        ∙ ap (λ p. is_match p (slash ∷ join_with_byte slash (map chars (t ∷ ts))) (slash ∷ join_with_byte slash (map chars (n ∷ ns)))) ruled
        ∙ rooted_takes o (chars t) (map chars ts) (chars n) (map chars ns) are (flat-chars (n ∷ ns) names flat)
      where
        some : (ts : List Text) → AreComponents (map chars ts) → ts ≡ [] ∷ [] → ⊥
        some ts are e = nothing (subst (λ us. AreComponents (map chars us)) e are)
          where
            nothing : AreComponents (map chars ([] ∷ [])) → ⊥
            nothing ((accepted, flat, some), all) = true≢false (ap is_empty (sym chars-nil) ∙ some)

        whole : (p : Text) → begins_with slash p ≡ true → components p ≡ t ∷ ts
            → without_end_separator p ≡ slash ∷ join_with_byte slash (t ∷ ts)
        whole [] r f = absurd (false≢true r)
        whole (x ∷ []) r f = absurd (some (t ∷ ts) are (sym f ∙ alone))
          where
            alone : components (x ∷ []) ≡ [] ∷ []
            alone = rw r refl
        whole (x ∷ y ∷ xs) r f =
            ap (λ z. without_end_separator (z ∷ y ∷ xs)) (eqb-true x slash r) ∙ without_end-rooted y xs
            ∙ ap (λ cs. slash ∷ cs) (ap without_end_separator (sym (cond-true (begins_with slash (x ∷ y ∷ xs)) (y ∷ xs)
            (x ∷ y ∷ xs) r)) ∙ sym (components-joined (x ∷ y ∷ xs)) ∙ ap (join_with_byte slash) f)
    by_root t ts e all are false root =
        ap₂ (is_match (goal_rules o))
        (ap chars (ap without_end_separator (sym (cond-false (begins_with slash pattern) (drop 1 pattern) pattern root)) ∙ sym
        (components-joined pattern) ∙ ap (join_with_byte slash) e) ∙ chars-joined (t ∷ ts) all)
        (chars-joined (n ∷ ns) names)
        ∙ ap (λ p. is_match p (join_with_byte slash (map chars (t ∷ ts))) (join_with_byte slash (map chars (n ∷ ns)))) ruled
        ∙ joined_takes o (chars t) (map chars ts) (chars n) (map chars ns) are (flat-chars (n ∷ ns) names flat)

    by_components : (ts : List Text) → components pattern ≡ ts → AllUtf8 ts → AreComponents (map chars ts)
        → matches_undivided o pattern (text_below pattern (n ∷ ns)) ≡ takes_names o (matches_name o) ts (n ∷ ns)
    by_components [] e all are = absurd (omega (
      arith,
      length-slice_split (λ c. c == slash) (without_end_separator
          (without_root pattern)),
      ap length e,
    ))
    by_components (t ∷ ts) e all are = by_root t ts e all are (begins_with slash pattern) refl
        ∙ takes_names-chars o (t ∷ ts) all (n ∷ ns) names
