-- If there are only the rules of the command line, what is ignored on the way to a path is what their list ignores.
use Rattle.std.proofs.Common.{◌≡◌, Bool, true, false, not, ◌&&◌, ◌||◌, List, [], ◌∷◌, ◌++◌, Option, Some, None}
use Rattle.std.proofs.Common.{refl, ap, ap₂, sym, ◌∙◌}
use Rattle.std.specs.Prelude.{unwrap_or}
use Rattle.std.specs.List.{list_all, join_with_byte}
use Rattle.std.specs.Option.{option_or}
use Rattle.glob_text.specs.Characters.{slash}
use Rattle.glob_text.specs.Text.{Text}
use Rattle.glob_tree.specs.Content.{Key}
use Rattle.glob_tree.specs.Paths.{is_proper}
use Rattle.glob_rules.specs.Deciding.{is_ignored as is_ignored_by}
use Rattle.glob_rules.specs.Lists.{Ignores}
use Rattle.glob_search.specs.Laws.{HasOneFile}
use Rattle.glob_search.specs.Searching.{Aim, files_said, is_ignored, is_kept, is_nil, last_said, outer_said, said}
use Rattle.glob_search.specs.Aims.{rules_from}
use Rattle.glob_search.proofs.OrderLemmas.OneFile.{one_file_decides}
use Rattle.std.proofs.lemmas.Bool.{false≢true}
use Rattle.globs.specs.Chosen.{Chosen}
use Rattle.globs.specs.Find.Aiming.{IgnoresByList, aim, first_lists, git_lists, last_lists, rule_files}
use Rattle.globs.proofs.AimLemmas.{unheeded}

or_none : {A : Type 0} (o : Option A) → option_or o None ≡ o
or_none None = refl
or_none (Some x) = refl

-- the aim, with its list as the only file at the top
abbrev top_lists : Ignores → (directory : Key) → List Ignores
top_lists list [] = list ∷ []
top_lists list (n ∷ ns) = []

abbrev with_file : Aim → Ignores → Aim
with_file a list = record a { first = []; rules_in = top_lists list; last = [] }

has_file : (a : Aim) (list : Ignores) → HasOneFile (with_file a list) list
has_file a list = record { first = refl; top = refl; below = λ n ns. refl; last = refl }

said_below : (a : Aim) (list : Ignores) (x : Text) (xs ns : Key) (d : Bool) → files_said (with_file a list) (x ∷ xs) ns d ≡ None
said_below a list x xs [] d = refl
said_below a list x xs (n ∷ ns) d = ap (λ o. option_or o None) (said_below a list x (xs ++ n ∷ []) ns d)

-- with the file
by_file : (a : Aim) (list : Ignores) (n : Text) (ns : Key) (d : Bool) → is_ignored (with_file a list) (n ∷ ns) d ≡
    unwrap_or (said list (join_with_byte slash (n ∷ ns)) d) false
by_file a list n ns d =
    let o = said list (join_with_byte slash (n ∷ ns)) d in
    ap (λ x. unwrap_or (option_or x None) false) (ap (λ x. option_or x (option_or o None)) (said_below a list n [] ns d))
    ∙ ap (λ x. unwrap_or x false) (or_none (option_or o None) ∙ or_none o)

module _ (a : Aim) (list : Ignores) (first : a.first ≡ list ∷ []) (none : (directory : Key) → a.rules_in directory ≡ [])
    (last : a.last ≡ []) where
  files_none : (directory ns : Key) (d : Bool) → files_said a directory ns d ≡ None
  files_none directory [] d = refl
  files_none directory (n ∷ ns) d =
      ap₂ option_or (files_none (directory ++ n ∷ []) ns d) (ap (λ ls. last_said ls (join_with_byte slash (n ∷ ns)) d) (none directory))

  by_list : (names : Key) (d : Bool) → is_ignored a names d ≡ unwrap_or (said list (join_with_byte slash names) d) false
  by_list names d =
      let path = join_with_byte slash names in
      ap (λ ls. unwrap_or (option_or (last_said ls path d) (option_or (files_said a [] names d) (outer_said a.last path d))) false) first
      ∙ ap (λ o. unwrap_or (option_or (option_or (said list path d) None) (option_or o (outer_said a.last path d)))
      false) (files_none [] names d)
      ∙ ap (λ ls. unwrap_or (option_or (option_or (said list path d) None) (outer_said ls path d)) false) last
      ∙ ap (λ o. unwrap_or o false) (or_none (option_or (said list path d) None) ∙ or_none (said list path d))

  same_ignored : (directory : Key) (n : Text) (d : Bool) → is_ignored a (directory ++ n ∷ []) d ≡
      is_ignored (with_file a list) (directory ++ n ∷ []) d
  same_ignored [] n d = by_list (n ∷ []) d ∙ sym (by_file a list n [] d)
  same_ignored (x ∷ xs) n d = by_list (x ∷ (xs ++ n ∷ [])) d ∙ sym (by_file a list x (xs ++ n ∷ []) d)

  same_kept : (directory names : Key) (d : Bool) → is_kept a directory names d ≡ is_kept (with_file a list) directory names d
  same_kept directory [] d = refl
  same_kept directory (n ∷ ns) d =
      ap₂ (λ i k. not i && k) (same_ignored directory n (d || not (is_nil ns))) (same_kept (directory ++ n ∷ []) ns d)

  pub list_decides : (n : Text) (ns : Key) (d : Bool) → list_all is_proper (n ∷ ns) ≡ true
      → is_kept a [] (n ∷ ns) d ≡ not (is_ignored_by list (join_with_byte slash (n ∷ ns)) d)
  list_decides n ns d proper = same_kept [] (n ∷ ns) d ∙ one_file_decides (with_file a list) list (has_file a list) n ns d proper

no_names : (names : List Text) → not (is_nil names) ≡ false → names ≡ []
no_names [] e = refl
no_names (n ∷ ns) e = absurd (false≢true (sym e))

pub ignores_by_list : (o : Chosen) → IgnoresByList o
ignores_by_list o list patterns place known quiet ruled =
    list_decides (aim o list patterns place known) list
    (ap (λ r. first_lists o.settings.is_git r list) ruled ∙ ap (λ g. git_lists g ++ list ∷ []) (unheeded o quiet))
    (λ directory. ap (λ files. rules_from known files directory) (no_names (rule_files o) quiet))
    (ap (λ g. last_lists g place known) (unheeded o quiet))
