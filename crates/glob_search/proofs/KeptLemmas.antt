-- What is left out below directories that are kept.
use Rattle.std.proofs.Common.{◌≡◌, Bool, true, false, not, ◌&&◌, ◌||◌, [], ◌∷◌, ◌++◌}
use Rattle.std.proofs.Common.{refl, ap, sym, ◌∙◌}
use mathlib.Core.Bool.{and-true, or-false}
use Rattle.std.proofs.lemmas.Bool.{and_parts, and_from, or_right}
use Rattle.std.proofs.lemmas.List.{append_assoc, append-nil}
use Rattle.glob_text.specs.Pieces.{pieces}
use Rattle.glob_text.specs.Text.{Text}
use Rattle.glob_tree.specs.Content.{Key}
use Rattle.glob_search.specs.Asking.{is_left_out}
use Rattle.glob_search.specs.Searching.{Aim, is_ignored, is_kept, is_nil}
use Rattle.glob_search.proofs.EngineLemmas.Paths.{AreProper}

-- on the way to more names each directory is a directory
pub long : (names : Key) (n : Text) (more : Key) → is_nil (names ++ n ∷ more) ≡ false
long [] n more = refl
long (m ∷ ms) n more = refl

-- What is kept is kept below it as well, unless something further down is ignored.
pub kept-further : (a : Aim) (directory names : Key) (n : Text) (more : Key) (d : Bool) → is_kept a directory names true ≡ true
    → is_kept a directory (names ++ n ∷ more) d ≡ is_kept a (directory ++ names) (n ∷ more) d
kept-further a directory [] n more d h = ap (λ k. is_kept a k (n ∷ more) d) (sym (append-nil directory))
kept-further a directory (m ∷ ms) n more d h =
    let next = directory ++ m ∷ [] in
    let rest = is_kept a next (ms ++ n ∷ more) d in
    let (here, later) = and_parts (not (is_ignored a next true)) (is_kept a next ms true) h in
    ap (λ b. not (is_ignored a next (d || not b)) && rest) (long ms n more)
    ∙ ap (λ b. not (is_ignored a next b) && rest) (or_right d true refl)
    ∙ ap (λ b. b && rest) here
    ∙ kept-further a next ms n more d later
    ∙ ap (λ k. is_kept a k (n ∷ more) d) (append_assoc directory (m ∷ []) ms)

-- a directory that is not ignored is kept
pub kept-next : (a : Aim) (names : Key) (n : Text) → is_kept a [] names true ≡ true → is_ignored a (names ++ n ∷ []) true ≡ false
    → is_kept a [] (names ++ n ∷ []) true ≡ true
kept-next a names n kept not_ignored = kept-further a [] names n [] true kept ∙ ap (λ b. not b && true) not_ignored

pub kept-front : (a : Aim) (directory names : Key) (n : Text) → is_kept a directory (names ++ n ∷ []) true ≡ true
    → is_kept a directory names true ≡ true
kept-front a directory [] n h = refl
kept-front a directory (m ∷ ms) n h =
    let next = directory ++ m ∷ [] in
    let (here, later) = and_parts (not (is_ignored a next true)) (is_kept a next (ms ++ n ∷ []) true) h in
    and_from (not (is_ignored a next true)) (is_kept a next ms true) here (kept-front a next ms n later)

not-not : (b : Bool) → not (not b) ≡ b
not-not true = refl
not-not false = refl

module _ (a : Aim) (path : Text) (directory : Key) (n : Text) (more : Key) (d : Bool) (proper : AreProper (pieces path))
    (whole : pieces path ≡ directory ++ n ∷ more) (kept : is_kept a [] directory true ≡ true) where
  left-below : is_left_out a path d ≡ not (is_kept a directory (n ∷ more) d)
  left-below =
      ap (λ b. b && not (is_kept a [] (pieces path) d)) proper
      ∙ ap (λ names. not (is_kept a [] names d)) whole
      ∙ ap not (kept-further a [] directory n more d kept)

  -- no directory above the path is ignored, so that the path is left out if it is ignored
  pub left-out_last : more ≡ [] → is_left_out a path d ≡ is_ignored a (directory ++ n ∷ []) d
  left-out_last last =
      left-below
      ∙ ap (λ ns. not (is_kept a directory (n ∷ ns) d)) last
      ∙ ap not (and-true (not (is_ignored a (directory ++ n ∷ []) (d || false))))
      ∙ not-not (is_ignored a (directory ++ n ∷ []) (d || false))
      ∙ ap (is_ignored a (directory ++ n ∷ [])) (or-false d)

  -- a directory above the path is ignored
  pub left-out_above : is_nil more ≡ false → is_ignored a (directory ++ n ∷ []) true ≡ true → is_left_out a path d ≡ true
  left-out_above some ignored =
      let rest = is_kept a (directory ++ n ∷ []) more d in
      left-below
      ∙ ap (λ b. not (not (is_ignored a (directory ++ n ∷ []) (d || not b)) && rest)) some
      ∙ ap (λ b. not (not (is_ignored a (directory ++ n ∷ []) b) && rest)) (or_right d true refl)
      ∙ ap (λ b. not (not b && rest)) ignored
