-- A folder's escaped name, and the pattern for everything below the folder.
use Rattle.std.proofs.Common.{◌≡◌, ◌≢◌, ℕ, ◌+◌, ◌-◌, ◌<◌, ◌≤◌, ◌↔◌, inr, ⊎_elim, Bool, true, false, not, ◌&&◌, ◌||◌}
use Rattle.std.proofs.Common.{◌==◌, List, [], ◌∷◌, ◌++◌, length, drop, map, slice_index, refl, sym, ap, subst, ◌∙◌}
use Rattle.std.proofs.Common.{arith, append_assoc}
use Rattle.std.proofs.lemmas.Bool.{false≢true, and_parts, and_from, or_cases, or_right, eqb-true, eq-eqb, cases_lt, cond_both}
use Rattle.glob.specs.Characters.{slash}
use Rattle.glob.specs.Text.{Text, Has}
use Rattle.glob_pattern.specs.Escaping.{is_special, escaped_character, escaped_text}
use Rattle.glob_pattern.specs.Grammar.Characters.{star}
use Rattle.glob_pattern.specs.Grammar.Tokens.{Token}
use Rattle.glob_pattern.specs.Grammar.Units.{UnitAt, UnitsBetween}
use Rattle.glob_pattern.specs.Computing.Deciding.{is_match}
use Rattle.glob_pattern.specs.Matching.Texts.{Matches}
use Rattle.glob_pattern.specs.Matching.Taking.{takes}
use Rattle.glob_pattern.specs.Grammar.Brackets.{is_same}
use Rattle.glob_examples.specs.PathOptions.{path_options}
use Rattle.glob_pattern.specs.declared.token.bracket.Entry.TheVariants.{Single}
use Rattle.glob_pattern.specs.declared.token.Token.TheVariants.{Literal, AnySequence, Recursive, OneOf}
use Rattle.glob_pattern.proofs.Places.{get_or-from_drop, length-at_drop, drop-after_piece, length-after_piece}
use Rattle.glob_walk.proofs.ComponentLemmas.Fits.{fits, one_then, many_then, closed_then}
use Rattle.glob_walk.proofs.ComponentLemmas.JoinedComponents.{is_match-units}
use Rattle.glob_pattern.proofs.EscapingLemmas.Standing.{escaped_token, escaped_stands, stands-writes, stands-literal}
use Rattle.glob_pattern.proofs.GrammarLemmas.Accepted.{reading_of-Ok}
use Rattle.glob_pattern.proofs.GrammarLemmas.WrittenUnits.{UnitAt-plain}
use Rattle.glob_pattern.proofs.MatchingLemmas.Deciding.{Decides-Matches}

-- `/**/*`
abbrev pub all_below : Text
all_below = slash ∷ star ∷ star ∷ slash ∷ star ∷ []

abbrev below_tokens : List Token
below_tokens = Literal slash ∷ Recursive ∷ AnySequence ∷ []

-- the units of `/**/*`
module _ (whole : Text) (f : ℕ) (at : drop f whole ≡ all_below) where
  long : length whole ≡ f + 5
  long = length-at_drop whole (star ∷ star ∷ slash ∷ star ∷ []) f slash at

  stands : (i : ℕ) → i < 5 → Has whole (f + i) (slice_index all_below i)
  stands i l = (omega (arith, long, l), get_or-from_drop whole all_below f i 0 at)

  stands_at : (k i c : ℕ) → k ≡ f + i → i < 5 → slice_index all_below i ≡ c → Has whole k c
  stands_at k i c e l is = subst (λ n. Has whole n c) (sym e) (subst (Has whole (f + i)) is (stands i l))

  other : (k i c : ℕ) → k ≡ f + i → i < 5 → slice_index all_below i ≢ c → ¬ (Has whole k c)
  other k i c e l differs has = differs (sym (stands_at k i (slice_index all_below i) e l refl).1 ∙ has.1)

  deep : UnitAt whole (f + 1) Recursive (f + 4)
  deep = (
    (
      (λ k low high. ⊎_elim (λ one. stands_at k 1 star (omega arith) (omega arith) refl)
          (λ two. stands_at k 2 star (omega arith) (omega arith) refl) (cases_lt k (f + 2))),
      other (f + 1 + 2) 3 star (omega arith) (omega arith) (λ e. absurd (cc)),
      (λ _. other (f + 1 - 1) 0 star (omega arith) (omega arith) (λ e. absurd (cc))),
    ),
    or_right (f + 1 == 0) _ (eq-eqb _ _ (stands_at (f + 1 - 1) 0 slash (omega arith) (omega arith) refl).1),
    inr (omega arith, stands_at (f + 1 + 2) 3 slash (omega arith) (omega arith) refl),
  )

  run : UnitAt whole (f + 4) AnySequence (f + 5)
  run = (
    (
      (λ k low high. stands_at k 4 star (omega arith) (omega arith) refl),
      (λ has. absurd (omega (arith, has.0, long))),
      (λ _. other (f + 4 - 1) 3 star (omega arith) (omega arith) (λ e. absurd (cc))),
    ),
    omega arith,
  )

  units-below : UnitsBetween whole f below_tokens (length whole)
  units-below = (
    f + 1,
    UnitAt-plain whole (star ∷ star ∷ slash ∷ star ∷ []) f slash ((λ e. absurd (cc)), (λ e. absurd (cc)), (λ e. absurd (cc))) at,
    (f + 4, deep, (f + 5, run, sym long)),
  )

-- the units of an escaped name before it
units-written : (cs whole : Text) (f : ℕ) → drop f whole ≡ escaped_text cs ++ all_below → f ≤ length whole
    → UnitsBetween whole f (map escaped_token cs ++ below_tokens) (length whole)
units-written [] whole f e h = units-below whole f e
units-written (c ∷ cs) whole f e h =
    let rest : Text = escaped_text cs ++ all_below in
    let first : drop f whole ≡ escaped_character c ++ rest = e ∙ append_assoc (escaped_character c) (escaped_text cs) all_below in (
      f + length (escaped_character c),
      stands-writes escaped_character escaped_token escaped_stands c whole rest f first,
      units-written cs whole (f + length (escaped_character c)) (drop-after_piece whole (escaped_character c) rest f first)
          (length-after_piece whole (escaped_character c) rest f first h),
    )

-- an escaped character takes only itself, and the tokens after it take the rest
fits-escaped : (x : ℕ) (ts : List Token) (b : Bool) (cs : Text)
    → fits path_options (escaped_token x ∷ ts) b cs ≡ one_then path_options (escaped_token x) (fits path_options ts) b cs
fits-escaped x ts b cs =
    cond_both (is_special x) (OneOf (Single x ∷ [])) (Literal x)
    (λ t. fits path_options (t ∷ ts) b cs ≡ one_then path_options t (fits path_options ts) b cs) (λ _. refl) (λ _. refl)

same_character : (c x : ℕ) → is_same true c x ≡ true → c ≡ x
same_character c x h = ⊎_elim (λ e. eqb-true c x e) (λ never. absurd (false≢true never)) (or_cases (c == x) false h)

is_same-itself : (x : ℕ) → is_same true x x ≡ true
is_same-itself x = ap (λ b. b || false) (eq-eqb x x refl)

fits-name : (name : Text) (ts : List Token) (b : Bool) (text : Text) → fits path_options (map escaped_token name ++ ts) b text ≡ true
    → (rest : Text) × (after : Bool) × (text ≡ name ++ rest) × (fits path_options ts after rest ≡ true)
fits-name [] ts b text h = (text, b, refl, h)
fits-name (x ∷ name) ts b [] h = absurd (false≢true (sym (fits-escaped x (map escaped_token name ++ ts) b []) ∙ h))
fits-name (x ∷ name) ts b (c ∷ cs) h =
    let both = and_parts (takes path_options b c (escaped_token x)) _
    (sym (fits-escaped x (map escaped_token name ++ ts) b (c ∷ cs)) ∙ h) in
    let same : c ≡ x = same_character c x (sym ((stands-literal path_options _ _ x (escaped_stands x)).1 b c) ∙ both.0) in
    let (rest, after, is, others) = fits-name name ts (c == slash) cs both.1 in
    (rest, after, ap (λ y. y ∷ cs) same ∙ ap (λ ys. x ∷ ys) is, others)

fits-from_name : (name : Text) (ts : List Token) (b : Bool) (rest : Text) → ((after : Bool) → fits path_options ts after rest ≡ true)
    → fits path_options (map escaped_token name ++ ts) b (name ++ rest) ≡ true
fits-from_name [] ts b rest h = h b
fits-from_name (x ∷ name) ts b rest h =
    fits-escaped x (map escaped_token name ++ ts) b (x ∷ name ++ rest)
    ∙ and_from _ _ ((stands-literal path_options _ _ x (escaped_stands x)).1 b x ∙ is_same-itself x)
    (fits-from_name name ts (x == slash) rest h)

-- what `**/*` takes: any text
either : (e m c : Bool) → (m || c) ≡ true → ((not e && true) && m || (e && m || c)) ≡ true
either true m c h = h
either false m c h = h

any_fits : (b : Bool) (text : Text) → fits path_options (Recursive ∷ AnySequence ∷ []) b text ≡ true
any_fits b [] = refl
any_fits b (c ∷ cs) = either (c == slash) (many_then path_options AnySequence (fits path_options []) (c == slash) cs)
    (closed_then path_options Recursive (fits path_options (AnySequence ∷ [])) (c == slash) cs) (any_fits (c == slash) cs)

-- what `/**/*` takes: a separator and any text
slash_fits : (b : Bool) (text : Text) → fits path_options below_tokens b text ≡ true → (rest : Text) × (text ≡ slash ∷ rest)
slash_fits b [] h = absurd (false≢true h)
slash_fits b (c ∷ cs) h = (cs, ap (λ x. x ∷ cs) (same_character c slash (and_parts (is_same true c slash) _ h).0))

-- The escaped name of a folder and `/**/*` match exactly the texts that are the name, a separator, and any more.
pub Matches-below : (folder pattern text : Text) → pattern ≡ escaped_text folder ++ all_below
    → Matches path_options pattern text ↔ ((rest : Text) × (text ≡ folder ++ slash ∷ rest))
Matches-below folder pattern text is =
    let units : List Token = map escaped_token folder ++ below_tokens in
    let decides = Decides-Matches path_options pattern text (λ tokens.
    ((reading_of-Ok pattern tokens).1, (reading_of-Ok pattern tokens).0)) in
    let reads : is_match path_options pattern text ≡ fits path_options units true text =
    is_match-units path_options pattern text units (units-written folder pattern 0 is (omega arith)) in (
      (λ matches.
          let (rest, after, split, others) = fits-name folder below_tokens true text (sym reads ∙ decides.1 matches) in
          let (more, begins) = slash_fits after rest others in
          (more, split ∙ ap (λ xs. folder ++ xs) begins)),
      (λ below. decides.0 (reads ∙ ap (fits path_options units true) below.1 ∙
          fits-from_name folder below_tokens true (slash ∷ below.0) (λ after. any_fits true below.0))),
    )
