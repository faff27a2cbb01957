-- A pattern takes names by its components exactly when it matches their text as a whole.
use Rattle.std.proofs.Common.{◌≡◌, ℕ, ◌<◌, ⊎_elim, Bool, true, false, cond, not, ◌&&◌, ◌||◌, ◌==◌, List, [], ◌∷◌}
use Rattle.std.proofs.Common.{length, map, refl, sym, ap, ap₂, subst, ◌∙◌, arith}
use Rattle.std.specs.Prelude.{codes, Result, Ok, Err}
use Rattle.std.specs.List.{All, list_all, list_any, join_with_byte}
use Rattle.std.specs.Path.{has_no_slash}
use Rattle.std.specs.Str.{chars, is_utf8, IsUtf8}
use lib.Utf8.{encode, encodes}
use Rattle.std.proofs.lemmas.Bool.{and_parts, and_from, or_left, or_right, or_cases, both_ways, false≢true}
use Rattle.std.proofs.lemmas.List.Elements.{All-nil, All-cons, All-head, All-tail}
use Rattle.std.proofs.lemmas.List.Splits.{join_with_byte-slice_split, length-slice_split}
use Rattle.std.proofs.lemmas.Str.{chars-nil, encodes-chars, IsUtf8-from_is_utf8}
use Rattle.glob_text.specs.Characters.{slash, dot}
use Rattle.glob_text.specs.Text.{Text}
use Rattle.glob_text.specs.Pieces.{is_empty, pieces}
use Rattle.glob_pattern.specs.Computing.Deciding.{is_match, match_of_reading, tokens_match}
use Rattle.glob_pattern.specs.Computing.Reading.{reading_of, units_from}
use Rattle.glob_pattern.specs.Grammar.Characters.{star}
use Rattle.glob_pattern.specs.Grammar.Faults.{Fault}
use Rattle.glob_pattern.specs.Grammar.Tokens.{Token}
use Rattle.glob_pattern.specs.Grammar.Units.{IsAccepted}
use Rattle.glob_pattern.proofs.MatchingLemmas.Computed.{accepted_by_reading}
use Rattle.glob_pattern.specs.Matching.Components.{admits, is_open, is_recursive, run_to_end, run_before, name_before}
use Rattle.glob_pattern.specs.Matching.Components.{takes_names, with_separator_rule, AreComponents}
use Rattle.glob_pattern.specs.Matching.Options.{new_options}
use Rattle.glob_pattern.specs.Matching.Taking.{is_excluded_dot}
use Rattle.glob_pattern.specs.declared.options.MatchOptions.{MatchOptions}
use Rattle.glob_pattern.specs.declared.token.Token.TheVariants.{AnySequence, Recursive}
use Rattle.glob_search.specs.Searching.{Aim, takes, ended, is_taken}
use Rattle.glob_search.specs.Laws.{IsLevel, are_flat, is_matched}
use Rattle.glob_search.proofs.TakesLemmas.{AreStarred, ended_takes, matches}
use Rattle.glob_tree.specs.Content.{Key}
use Rattle.glob_tree.specs.Paths.{is_proper}
use Rattle.glob_tree.proofs.ContentLemmas.Directories.{IsName-from_proper}
use Rattle.glob_walk.specs.Laws.{are_names}
use Rattle.glob_walk.proofs.ComponentLemmas.FirstSeparator.{no_slash_parts}
use Rattle.glob_walk.proofs.ComponentLemmas.Fits.{fits, tokens_match-fits}
use Rattle.glob_walk.proofs.ComponentLemmas.JoinedComponents.{joined_takes}
use Rattle.glob_walk.proofs.ComponentLemmas.WholeNames.{is_open-begins}
use Rattle.glob_walk.proofs.GoalLemmas.Characters.{AllUtf8, chars-joined, dot-chars, no_slash-chars}
use Rattle.glob_walk.proofs.GoalLemmas.PatternParts.{pieces-flat, pieces-utf8}
use Rattle.glob_walk.proofs.GoalLemmas.Undivided.{takes_names-chars}
use Rattle.glob_walk.proofs.ListingLemmas.ComponentKinds.{recursive_is}

-- `*` takes all of a text without separators whose first character no rule excludes
star_fits : (o : MatchOptions) (b : Bool) (cs : Text) → has_no_slash cs ≡ true → fits o (AnySequence ∷ []) b cs ≡ admits o b cs
star_fits o b [] flat = refl
star_fits o b (c ∷ cs) flat =
    let (other, rest) = no_slash_parts c cs flat in
    ap₂ (λ x y. not (o.require_literal_separator && x) && not (is_excluded_dot o b c) && fits o (AnySequence ∷ []) y cs) other other
    ∙ ap₂ (λ x y. x && not (is_excluded_dot o b c) && y) (no_separator o.require_literal_separator) (star_fits o false cs rest ∙ later cs)
    ∙ last (not (is_excluded_dot o b c))
  where
    no_separator : (s : Bool) → not (s && false) ≡ true
    no_separator true = refl
    no_separator false = refl

    later : (cs : Text) → admits o false cs ≡ true
    later [] = refl
    later (c ∷ cs) = by_rule o.require_literal_leading_dot
      where
        by_rule : (d : Bool) → not (d && false && c == dot) ≡ true
        by_rule true = refl
        by_rule false = refl

    last : (x : Bool) → (true && x && true) ≡ x
    last true = refl
    last false = refl

star_is : (o : MatchOptions) (text : Text) → is_match o (chars (star ∷ [])) text ≡ tokens_match o (AnySequence ∷ []) text
unfolding is_match units_from chars
star_is o text = refl

utf8-from : (ns : Key) → are_flat ns ≡ true → AllUtf8 ns
utf8-from [] h = tt
utf8-from (n ∷ ns) h =
    let both = and_parts (is_utf8 n && has_no_slash n) (are_flat ns) h in
    (IsUtf8-from_is_utf8 n (and_parts (is_utf8 n) (has_no_slash n) both.0).0, utf8-from ns both.1)

flat-from : (ns : Key) → are_flat ns ≡ true → list_all has_no_slash (map chars ns) ≡ true
flat-from [] h = refl
flat-from (n ∷ ns) h =
    let both = and_parts (is_utf8 n && has_no_slash n) (are_flat ns) h in
    let here = and_parts (is_utf8 n) (has_no_slash n) both.0 in
    and_from (has_no_slash (chars n)) (list_all has_no_slash (map chars ns))
    (no_slash-chars n (IsUtf8-from_is_utf8 n here.0) ∙ here.1) (flat-from ns both.1)

-- `*` matches each such name exactly when `**` may take it
starred : (o : MatchOptions) (ns : Key) → are_flat ns ≡ true → AreStarred o ns
starred o [] h = tt
starred o (n ∷ ns) h =
    let both = and_parts (is_utf8 n && has_no_slash n) (are_flat ns) h in
    let here = and_parts (is_utf8 n) (has_no_slash n) both.0 in
    let utf8 = IsUtf8-from_is_utf8 n here.0 in (
      star_is o (chars n) ∙ tokens_match-fits o (AnySequence ∷ []) (chars n)
          ∙ star_fits o true (chars n) (no_slash-chars n utf8 ∙ here.1)
          ∙ is_open-begins o (chars n) ∙ ap (λ x. not (o.require_literal_leading_dot && x)) (dot-chars n utf8) ∙ sym (is_open-begins o n),
      starred o ns both.1,
    )

some-chars : (t cs : Text) → IsUtf8 t → is_empty t ≡ false → chars t ≡ cs → is_empty cs ≡ false
some-chars t [] utf8 some e = absurd (both_ways (is_empty t) some (ap is_empty (sym (encodes-chars t utf8) ∙ ap encodes e)))
some-chars t (c ∷ cs) utf8 some e = refl

are_components : (ts : List Text) → AllUtf8 ts → list_all has_no_slash ts ≡ true → All IsLevel ts → AreComponents (map chars ts)
are_components [] utf8 flat levels = tt
are_components (t ∷ ts) utf8 flat levels =
    let flats = and_parts (has_no_slash t) (list_all has_no_slash ts) flat in
    let level = All-head IsLevel t ts levels in (
      (level.0, no_slash-chars t utf8.0 ∙ flats.0, some-chars t (chars t) utf8.0 level.1 refl),
      are_components ts utf8.1 flats.1 (All-tail IsLevel t ts levels),
    )

-- A pattern of accepted, nonempty components takes one or more names exactly when it matches the text of the names
-- under the separator rule.
pub takes_whole : (o : MatchOptions) (p : Text) → IsUtf8 p → All IsLevel (pieces p) → (n : Text) (ns : Key) → are_flat (n ∷ ns) ≡ true
    → takes o (ended (pieces p)) (n ∷ ns) ≡ is_match (with_separator_rule o) (chars p) (chars (join_with_byte slash (n ∷ ns)))
takes_whole o p utf8 levels n ns names =
    ended_takes o (pieces p) (n ∷ ns) (starred o (n ∷ ns) names)
    ∙ sym (takes_names-chars o (pieces p) (pieces-utf8 p utf8) (n ∷ ns) (utf8-from (n ∷ ns) names))
    ∙ by_pieces (pieces p) refl (pieces-utf8 p utf8) (are_components (pieces p) (pieces-utf8 p utf8) (pieces-flat p) levels)
  where
    by_pieces : (ts : List Text) → pieces p ≡ ts → AllUtf8 ts → AreComponents (map chars ts)
        → takes_names o (is_match o) (map chars ts) (map chars (n ∷ ns)) ≡ is_match (with_separator_rule o) (chars p)
        (chars (join_with_byte slash (n ∷ ns)))
    by_pieces [] e all are = absurd (omega (arith, length-slice_split (λ c. c == slash) p, ap length e))
    by_pieces (t ∷ ts) e all are =
        sym (ap₂ (is_match (with_separator_rule o))
        (ap chars (sym (join_with_byte-slice_split slash p) ∙ ap (join_with_byte slash) e) ∙ chars-joined (t ∷ ts) all)
        (chars-joined (n ∷ ns) (utf8-from (n ∷ ns) names))
        ∙ joined_takes o (chars t) (map chars ts) (chars n) (map chars ns) are (flat-from (n ∷ ns) names))

-- names of a content are text without separators
pub are_flat-from_names : (ns : Key) → are_names ns ≡ true → are_flat ns ≡ true
are_flat-from_names [] h = refl
are_flat-from_names (n ∷ ns) h =
    let both = and_parts (is_utf8 n && is_proper n) (are_names ns) h in
    let here = and_parts (is_utf8 n) (is_proper n) both.0 in
    and_from (is_utf8 n && has_no_slash n) (are_flat ns)
    (and_from (is_utf8 n) (has_no_slash n) here.0 (IsName-from_proper n here.1).plain) (are_flat-from_names ns both.1)

-- accepted components that are not empty and fail another test
pub levels-from : (other : Text → Bool) (ts : List Text) → All (λ t. IsAccepted (chars t)) ts → list_any
    (λ t. is_empty t || other t) ts ≡ false → All IsLevel ts
levels-from other [] accepted none = All-nil IsLevel
levels-from other (t ∷ ts) accepted none =
    let both = neither (is_empty t || other t) (list_any (λ u. is_empty u || other u) ts) none in
    All-cons IsLevel t ts (All-head (λ u. IsAccepted (chars u)) t ts accepted, (neither (is_empty t) (other t) both.0).0)
    (levels-from other ts (All-tail (λ u. IsAccepted (chars u)) t ts accepted) both.1)
  where
    neither : (a b : Bool) → (a || b) ≡ false → (a ≡ false) × (b ≡ false)
    neither false b h = (refl, h)
    neither true b h = absurd (false≢true (sym h))

-- `**` is accepted
stars_accepted : IsAccepted (chars (star ∷ star ∷ []))
unfolding chars units_from
stars_accepted = accepted_by_reading (chars (star ∷ star ∷ [])) (Recursive ∷ []) refl

accepted-matching : (o : MatchOptions) (p text : Text) → is_match o p text ≡ true → IsAccepted p
unfolding is_match
accepted-matching o p text h = by_reading (reading_of p) refl h
  where
    by_reading : (read : Result (List Token) Fault) → reading_of p ≡ read → match_of_reading o read text ≡ true → IsAccepted p
    by_reading (Ok tokens) e h = accepted_by_reading p tokens e
    by_reading (Err fault) e h = absurd (false≢true h)

nothing_matches : (o : MatchOptions) (c : ℕ) (cs : Text) → is_match o [] (c ∷ cs) ≡ false
unfolding is_match units_from tokens_match
nothing_matches o c cs = refl

-- what matches a name is accepted and not empty
level-matching : (o : MatchOptions) (t n : Text) → IsUtf8 n → is_empty n ≡ false → is_match o (chars t) (chars n) ≡ true → IsLevel t
level-matching o [] n utf8 some h = absurd (by_chars (chars n) (some-chars n (chars n) utf8 some refl)
    (sym (ap (λ cs. is_match o cs (chars n)) chars-nil) ∙ h))
  where
    by_chars : (cs : Text) → is_empty cs ≡ false → is_match o [] cs ≡ true → ⊥
    by_chars [] none h = false≢true (sym none)
    by_chars (c ∷ cs) none h = both_ways (is_match o [] (c ∷ cs)) (nothing_matches o c cs) h
level-matching o (x ∷ xs) n utf8 some h = (accepted-matching o (chars (x ∷ xs)) (chars n) h, refl)

stars_level : (t : Text) → is_recursive t ≡ true → IsLevel t
stars_level t r = subst IsLevel (sym (recursive_is t r)) (stars_accepted, refl)

-- names that are text, none of them empty
abbrev AreSome : Key → Type 0
AreSome [] = Unit {0}
AreSome (n ∷ ns) = IsUtf8 n × (is_empty n ≡ false) × AreSome ns

levels-before : (o : MatchOptions) (t : Text) (ts : List Text) (follows : Key → Bool) (names : Key) → AreSome names
    → ((ms : Key) → AreSome ms → follows ms ≡ true → All IsLevel ts) → name_before (matches o t) follows names ≡ true → All IsLevel (t ∷ ts)
levels-before o t ts follows [] some later h = absurd (false≢true h)
levels-before o t ts follows (n ∷ ns) (utf8, some, rest) later h =
    let both = and_parts (matches o t n) (follows ns) h in
    All-cons IsLevel t ts (level-matching o t n utf8 some both.0) (later ns rest both.1)

levels-run : (o : MatchOptions) (ts : List Text) (follows : Key → Bool) (names : Key) → AreSome names
    → ((ms : Key) → AreSome ms → follows ms ≡ true → All IsLevel ts) → run_before o follows names ≡ true → All IsLevel ts
levels-run o ts follows [] some later h = absurd (false≢true h)
levels-run o ts follows (n ∷ ns) (utf8, some, rest) later h = ⊎_elim
    (λ here. later (n ∷ ns) (utf8, some, rest) here)
    (λ on. levels-run o ts follows ns rest later (and_parts (is_open o n) (run_before o follows ns) on).1)
    (or_cases (follows (n ∷ ns)) (is_open o n && run_before o follows ns) h)

-- components that take such names are accepted, and none of them is empty
levels-taking : (o : MatchOptions) (ts : List Text) (names : Key) → AreSome names → takes_names o (matches o) ts names
    ≡ true → All IsLevel ts
levels-taking o [] names some h = All-nil IsLevel
levels-taking o (t ∷ []) names some h = by_test (is_recursive t) refl h
  where
    by_test : (b : Bool) → is_recursive t ≡ b → cond b (run_to_end o names) (name_before (matches o t) (takes_names o
        (matches o) []) names) ≡ true → All IsLevel (t ∷ [])
    by_test true r h = All-cons IsLevel t [] (stars_level t r) (All-nil IsLevel)
    by_test false r h = levels-before o t [] (takes_names o (matches o) []) names some (λ ms more e. All-nil IsLevel) h
levels-taking o (t ∷ u ∷ us) names some h = by_test (is_recursive t) refl (λ ms. levels-taking o (u ∷ us) ms) h
  where
    by_test : (b : Bool) → is_recursive t ≡ b → ((ms : Key) → AreSome ms → takes_names o (matches o) (u ∷ us) ms ≡ true
        → All IsLevel (u ∷ us))
        → cond b (run_before o (takes_names o (matches o) (u ∷ us)) names) (name_before (matches o t) (takes_names o
        (matches o) (u ∷ us)) names) ≡ true
        → All IsLevel (t ∷ u ∷ us)
    by_test true r later h = All-cons IsLevel t (u ∷ us) (stars_level t r) (levels-run o (u ∷ us) (takes_names o
        (matches o) (u ∷ us)) names some later h)
    by_test false r later h = levels-before o t (u ∷ us) (takes_names o (matches o) (u ∷ us)) names some later h

AreSome-from_names : (ns : Key) → are_names ns ≡ true → AreSome ns
AreSome-from_names [] h = tt
AreSome-from_names (n ∷ ns) h =
    let both = and_parts (is_utf8 n && is_proper n) (are_names ns) h in
    let here = and_parts (is_utf8 n) (is_proper n) both.0 in
    (IsUtf8-from_is_utf8 n here.0, some n (IsName-from_proper n here.1).some, AreSome-from_names ns both.1)
  where
    some : (n : Text) → 0 < length n → is_empty n ≡ false
    some [] l = absurd (omega arith)
    some (x ∷ xs) l = refl

-- Whatever the components are: a pattern that takes the names of a path matches their text.
pub taken_matches : (o : MatchOptions) (p : Text) → IsUtf8 p → (n : Text) (ns : Key) → are_names (n ∷ ns) ≡ true
    → takes o (ended (pieces p)) (n ∷ ns) ≡ true
    → is_match (with_separator_rule o) (chars p) (chars (join_with_byte slash (n ∷ ns))) ≡ true
taken_matches o p utf8 n ns names h =
    let flat = are_flat-from_names (n ∷ ns) names in
    sym (takes_whole o p utf8 (levels-taking o (pieces p) (n ∷ ns) (AreSome-from_names (n ∷ ns) names)
    (sym (ended_takes o (pieces p) (n ∷ ns) (starred o (n ∷ ns) flat)) ∙ h)) n ns flat) ∙ h

pub is_taken-whole : (a : Aim) → All (λ p. IsUtf8 p × All IsLevel (pieces p)) a.patterns → (n : Text) (ns : Key) → are_flat (n ∷ ns) ≡ true
    → is_taken a (n ∷ ns) ≡ is_matched a (join_with_byte slash (n ∷ ns))
is_taken-whole a levels n ns names = each a.patterns levels
  where
    each : (ps : List Text) → All (λ p. IsUtf8 p × All IsLevel (pieces p)) ps
        → list_any (λ ts. takes a.options ts (n ∷ ns)) (map (λ p. ended (pieces p)) ps)
        ≡ list_any (λ p. is_match (with_separator_rule a.options) (chars p) (chars (join_with_byte slash (n ∷ ns)))) ps
    each [] all = refl
    each (p ∷ ps) all =
        let (utf8, level) = All-head (λ q. IsUtf8 q × All IsLevel (pieces q)) p ps all in
        ap₂ (λ x y. x || y) (takes_whole a.options p utf8 level n ns names)
        (each ps (All-tail (λ q. IsUtf8 q × All IsLevel (pieces q)) p ps all))

pub is_taken-matches : (a : Aim) → All IsUtf8 a.patterns → (n : Text) (ns : Key) → are_names (n ∷ ns) ≡ true → is_taken a (n ∷ ns) ≡ true
    → is_matched a (join_with_byte slash (n ∷ ns)) ≡ true
is_taken-matches a texts n ns names h = each a.patterns texts h
  where
    each : (ps : List Text) → All IsUtf8 ps → list_any (λ ts. takes a.options ts (n ∷ ns)) (map (λ p. ended (pieces p)) ps) ≡ true
        → list_any (λ p. is_match (with_separator_rule a.options) (chars p) (chars (join_with_byte slash (n ∷ ns)))) ps ≡ true
    each [] all h = absurd (false≢true h)
    each (p ∷ ps) all h = ⊎_elim
        (λ here. or_left (is_match (with_separator_rule a.options) (chars p) (chars (join_with_byte slash (n ∷ ns)))) _
        (taken_matches a.options p (All-head IsUtf8 p ps all) n ns names here))
        (λ later. or_right (is_match (with_separator_rule a.options) (chars p) (chars (join_with_byte slash (n ∷ ns))))
        _ (each ps (All-tail IsUtf8 p ps all) later))
        (or_cases (takes a.options (ended (pieces p)) (n ∷ ns)) (list_any (λ ts. takes a.options ts (n ∷ ns))
        (map (λ q. ended (pieces q)) ps)) h)

-- What each premise of `takes_whole` is for: an example in which its two sides differ without the premise.
unfoldable computed : Unit {0}
unfolding chars is_utf8 encode units_from is_match tokens_match
computed = tt

abbrev Differ : (p : Text) → (names : Key) → Type 0
Differ p names =
    (takes new_options (ended (pieces p)) names ≡ false)
    × (is_match (with_separator_rule new_options) (chars p) (chars (join_with_byte slash names)) ≡ true)

-- some names, of text without separators
names_count : Differ (codes "**") [] × Differ (codes "?a") ((200 ∷ []) ∷ codes "a" ∷ []) × Differ (codes "a/b") (codes "a/b" ∷ [])
unfolding computed
names_count = ((refl, refl), (refl, refl), (refl, refl))

-- accepted components, none of them empty
components_count : Differ (codes "[a/b]") (codes "a" ∷ []) × Differ (codes "**/") (codes "a" ∷ [])
unfolding computed
components_count = ((refl, refl), (refl, refl))

-- a pattern of text
text_counts : Differ (200 ∷ codes "/a") ((200 ∷ 128 ∷ codes "a") ∷ [])
unfolding computed
text_counts = (refl, refl)
