-- The names of a path, and where it is cut.
use Rattle.std.proofs.Common.{◌≡◌, ◌+◌, false, [], ◌∷◌, ◌++◌, length}
use Rattle.std.proofs.Common.{Some, None, refl, ap, ap₂, sym, subst, ◌∙◌, arith, eqb, ne_eqb, get_or, Bor, ◌<◌}
use Rattle.std.specs.List.{join_with_byte, count_by}
use Rattle.std.proofs.lemmas.Bool.{cond-false, eqb-true, false_from_ne_true}
use Rattle.std.proofs.lemmas.List.{get_or_default, append_assoc}
use Rattle.std.proofs.lemmas.List.Splits.{join_with_byte-slice_split, length-slice_split, slice_split_first, slice_split_none}
use Rattle.std.proofs.lemmas.Str.Pattern.{IsSplitOnceResult, split_once_first, split_parts}
use Rattle.glob_text.specs.Characters.{slash}
use Rattle.glob_text.specs.Pieces.{pieces}
use Rattle.glob_text.specs.Text.{Text}
use Rattle.glob_tree.specs.Content.{Key}
use Rattle.glob_tree.proofs.ContentLemmas.Resolving.{pieces-append}
use Rattle.glob_search.specs.Searching.{is_nil}
use Rattle.glob_search.specs.Private.Entering.{below_text}
use Rattle.glob_search.proofs.EngineLemmas.Paths.{AreProper, joined-empty, pieces-join, proper-parts}

-- the names of a path that goes on below a directory
pub pieces-below : (names : Key) (directory rest path : Text) → AreProper names → directory ≡ join_with_byte slash names
    → path ≡ below_text directory rest → pieces path ≡ names ++ pieces rest
pieces-below [] directory rest path h at is =
    ap pieces (is ∙ ap (λ t. below_text t rest) at)
pieces-below (m ∷ ms) directory rest path h at is =
    let text = join_with_byte slash (m ∷ ms) in
    ap pieces (is ∙ ap (λ t. below_text t rest) at ∙ cond-false (eqb (length text) 0) rest (text ++ slash ∷ rest)
    (false_from_ne_true (eqb (length text) 0) (λ e. absurd (some (joined-empty (m ∷ ms) h (eqb-true (length text) 0 e))))))
    ∙ pieces-append text rest
    ∙ ap (λ ps. ps ++ pieces rest) (pieces-join m ms h)
  where
    some : (m ∷ ms) ≡ [] → ⊥
    some e = cc

-- a path is cut at its first separator
pub first-cut : (path : Text) (cut : Bor Text × Bor Text) → IsSplitOnceResult slash path (Some cut) → slash < 128
    → pieces path ≡ cut.0.now ∷ pieces cut.1.now
first-cut path cut h low =
    let k = split_once_first slash path (Some cut) h low in
    slice_split_first (λ b. eqb b slash) path 0 k.0 ∙ ap₂ (λ n r. n ∷ pieces r) (sym k.1) (sym k.2)

-- and is one name where there is no separator
pub only-name : (path : Text) → IsSplitOnceResult slash path None → slash < 128 → pieces path ≡ path ∷ []
only-name path h low =
    let all = split_parts slash path None h low in
    slice_split_none (λ b. eqb b slash) path (λ k d lt. ne_eqb (get_or path k d) slash (λ e. all k lt (get_or_default path k 0 d lt ∙ e)))

-- a path has a name
pub some-pieces : (path : Text) → is_nil (pieces path) ≡ false
some-pieces path = some (pieces path) (length-slice_split (λ b. eqb b slash) path)
  where
    some : (names : Key) → length names ≡ count_by (λ b. eqb b slash) path + 1 → is_nil names ≡ false
    some [] long = absurd (omega (arith, long))
    some (n ∷ ns) long = refl

-- a path joins its names
pub path-whole : (path : Text) (names : Key) → pieces path ≡ names → path ≡ join_with_byte slash names
path-whole path names is = sym (join_with_byte-slice_split slash path) ∙ ap (join_with_byte slash) is

-- the names up to one of them are proper
pub proper-upto : (path : Text) (directory : Key) (n : Text) (more : Key) → AreProper (pieces path) → pieces path ≡ directory ++ n ∷ more
    → AreProper (directory ++ n ∷ [])
proper-upto path directory n more h whole =
    (proper-parts (directory ++ n ∷ []) more (subst AreProper (whole ∙ sym (append_assoc directory (n ∷ []) more)) h)).0
