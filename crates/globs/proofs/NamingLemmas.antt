-- Where rules are, and what is written about them.
use Rattle.std.proofs.Common.{◌≡◌, ℕ, ◌<◌, List, [], ◌∷◌, ◌++◌, Option, inr, length, map, refl, sym, ap, subst, ◌∙◌, append-nil, Bor, arith}
use Rattle.glob_lines.specs.Lines.{line_feed, with_ends}
use Rattle.glob_rules.specs.Lists.{AreTaken, Ignores, rules_of}
use Rattle.glob_text.specs.Text.{Text}
use Rattle.globs.specs.Copying.{Input}
use Rattle.globs.specs.Ignoring.{AreRead}
use Rattle.globs.specs.Naming.{File, NamesList, NamesRules, file_of, files_of, lines_of}

abbrev pub file_with : Text → List Text → File
file_with name lines = record { name = name; lines = lines }

-- the file whose lines were collected
pub file_is : (name text : Text) (lines : List (Bor Text)) → map (λ l. l.now) lines ≡ lines_of text
    → file_with name (map (λ l. l.now) lines) ≡ file_of name text
file_is name text lines same = ap (file_with name) same

-- a list with fewer than one item is empty
pub none_of : {A : Type 0} (xs : List A) → length xs < 1 → xs ≡ []
none_of [] short = refl
none_of (x ∷ xs) short = absurd (omega (arith, short))

no_texts : (names : List Text) → files_of names [] ≡ []
no_texts [] = refl
no_texts (name ∷ names) = refl

-- without texts there are no more files
pub files_ended : (names texts : List Text) (so_far all : List File) → texts ≡ [] → so_far ++ files_of names texts ≡ all → so_far ≡ all
files_ended names texts so_far all none so =
    sym (append-nil so_far) ∙ ap (λ fs. so_far ++ fs) (sym (no_texts names)) ∙ ap (λ ts. so_far ++ files_of names ts) (sym none) ∙ so

-- the rules of these files were named
pub names_rules : {W : Type 0} (contents : W → Option (List ℕ)) (holds : Text → Option Text) (end : ℕ)
    (names all : List Text) (input : Input) (old new : W) (status : ℕ)
    → (texts : List Text) × AreRead holds names texts × (all ≡ texts ++ []) → (files : List File) (list : Ignores)
    → AreTaken (with_ends line_feed all) × (list ≡ rules_of (with_ends line_feed all)) → files ≡ files_of names all
    → NamesList end files list input (contents old) (contents new) status → NamesRules contents holds end names input old new status
unfolding NamesRules
names_rules contents holds end names all input old new status (texts, are, same) files list (taken, is) files_are named =
    let whole : all ≡ texts = same ∙ append-nil texts in
    inr (
      texts,
      are,
      subst (λ ts. AreTaken (with_ends line_feed ts)) whole taken,
      subst (λ ts. NamesList end (files_of names ts) (rules_of (with_ends line_feed ts)) input (contents old) (contents new) status) whole
          (subst (λ l. NamesList end (files_of names all) l input (contents old) (contents new) status) is
          (subst (λ fs. NamesList end fs list input (contents old) (contents new) status) files_are named)),
    )
