-- The texts of sources, one more at a time.
use Rattle.std.proofs.Common.{◌≡◌, ℕ, ◌+◌, ◌<◌, ◌≤◌, List, [], ◌∷◌, ◌++◌, Option, length, get_or, take, drop, map, sym}
use Rattle.std.proofs.Common.{ap, subst, ◌∙◌, append-nil, append_assoc, Bor}
use Rattle.std.proofs.lemmas.List.{drop_all, drop_more, map_more, take_all}
use Rattle.glob_text.specs.Text.{Text}
use Rattle.glob_lines.specs.Lines.{line_feed, with_ends}
use Rattle.glob_rules.specs.Lists.{AreTaken, Ignores, rules_of}
use Rattle.globs.specs.Ignoring.{AreRead, HasRules, IsRead}

abbrev now : Bor Text → Text
now text = text.now

-- the texts that are left: the first one, and the others
left_more : (texts : List (Bor Text)) (i : ℕ) (none : Bor Text) → i < length texts → map now (drop i texts) ≡
    (get_or texts i none).now ∷ map now (drop (i + 1) texts)
left_more texts i none below = ap (map now) (drop_more texts i none below)

one_of : (so_far new others all : List Text) (text : Text) → new ≡ so_far ++ text ∷ [] → so_far ++ text ∷ others ≡ all → new ++ others ≡ all
one_of so_far new others all text pushed so = ap (λ ts. ts ++ others) pushed ∙ append_assoc so_far (text ∷ []) others ∙ so

-- one more rule
pub rules_more : (rules : List (Bor Text)) (i : ℕ) (none : Bor Text) (so_far new all : List Text) (text : Text) →
    i < length rules → text ≡ (get_or rules i none).now → new ≡ so_far ++ text ∷ []
    → so_far ++ map now (drop i rules) ≡ all → new ++ map now (drop (i + 1) rules) ≡ all
rules_more rules i none so_far new all text below is pushed so =
    one_of so_far new (map now (drop (i + 1) rules)) all text pushed
    (ap (λ t. so_far ++ t ∷ map now (drop (i + 1) rules)) is ∙ ap (λ ts. so_far ++ ts) (sym (left_more rules i none below)) ∙ so)

-- no rule is left
pub rules_done : (rules : List (Bor Text)) (i : ℕ) (so_far all : List Text) → length rules ≤ i → so_far ++
    map now (drop i rules) ≡ all → so_far ≡ all
rules_done rules i so_far all end so = sym (append-nil so_far) ∙ ap (λ ts. so_far ++ map now ts) (sym (drop_all i rules end)) ∙ so

-- one more file was read
AreRead-push : (holds : Text → Option Text) (names texts : List Text) (name text : Text) → AreRead holds names texts →
    IsRead (holds name) text
    → AreRead holds (names ++ name ∷ []) (texts ++ text ∷ [])
AreRead-push holds [] [] name text are is = (is, tt)
AreRead-push holds [] (t ∷ ts) name text are is = absurd are
AreRead-push holds (n ∷ ns) [] name text are is = absurd are
AreRead-push holds (n ∷ ns) (t ∷ ts) name text are is = (are.0, AreRead-push holds ns ts name text are.1 is)

-- the texts so far are the texts before and the texts of the files so far
pub ReadSoFar : (holds : Text → Option Text) → (names : List (Bor Text)) → (i : ℕ) → (before so_far : List Text) → Type 0
ReadSoFar holds names i before so_far =
    (texts : List Text) × AreRead holds (map (λ w. w.now) (take i names)) texts × (so_far ≡ before ++ texts)

-- no file is read
pub files_first : (holds : Text → Option Text) (names : List (Bor Text)) (before : List Text) → ReadSoFar holds names 0 before before
unfolding ReadSoFar
files_first holds names before = ([], tt, sym (append-nil before))

-- one more file
pub files_more : (holds : Text → Option Text) (names : List (Bor Text)) (i : ℕ) (none : Bor Text)
    (before so_far new : List Text) (text : Text) → i < length names
    → IsRead (holds (get_or names i none).now) text → new ≡ so_far ++ text ∷ [] →
    ReadSoFar holds names i before so_far → ReadSoFar holds names (i + 1) before new
unfolding ReadSoFar
files_more holds names i none before so_far new text below is pushed (texts, are, same) = (
  texts ++ text ∷ [],
  subst (λ ns. AreRead holds ns (texts ++ text ∷ [])) (sym (map_more now names i none below))
      (AreRead-push holds (map now (take i names)) texts (get_or names i none).now text are is),
  pushed ∙ ap (λ ts. ts ++ text ∷ []) same ∙ append_assoc before texts (text ∷ []),
)

-- all files
pub files_done : (holds : Text → Option Text) (names : List (Bor Text)) (i : ℕ) (before so_far : List Text) →
    length names ≤ i → ReadSoFar holds names i before so_far
    → (texts : List Text) × AreRead holds (map (λ w. w.now) names) texts × (so_far ≡ before ++ texts)
unfolding ReadSoFar
files_done holds names i before so_far end (texts, are, same) =
    (texts, subst (λ ns. AreRead holds (map now ns) texts) (take_all i names end) are, same)

-- the list of the rules of files and single ones
pub has_rules : (holds : Text → Option Text) (names rules all : List Text) →
    (texts : List Text) × AreRead holds names texts × (all ≡ texts ++ rules)
    → (list : Ignores) → AreTaken (with_ends line_feed all) × (list ≡ rules_of (with_ends line_feed all)) → HasRules holds names rules list
unfolding HasRules
has_rules holds names rules all (texts, are, same) list (taken, is) =
    (texts, are, subst (λ ts. AreTaken (with_ends line_feed ts)) same taken, is ∙ ap (λ ts. rules_of (with_ends line_feed ts)) same)
