-- With one file at the top, what is ignored on the way to a path is what decides about the path.
use Rattle.std.proofs.Common.{◌≡◌, ℕ, Bool, true, false, cond, not, ◌&&◌, [], ◌∷◌, ◌++◌, Option, Some, None, refl, ap, ap₂, sym, ◌∙◌}
use Rattle.std.specs.Prelude.{◌==◌, option_map, unwrap_or}
use Rattle.std.specs.List.{list_all, join_with_byte}
use Rattle.std.specs.Option.{option_or}
use Rattle.std.specs.Path.{has_no_slash}
use mathlib.Core.Bool.{and-true, or-false}
use Rattle.std.proofs.lemmas.Bool.{and_parts, and_left, not-true, or_right, cond-false}
use Rattle.std.proofs.lemmas.List.{append_assoc, append-nil}
use Rattle.glob_text.specs.Characters.{slash}
use Rattle.glob_text.specs.Text.{Text}
use Rattle.glob_tree.specs.Content.{Key}
use Rattle.glob_tree.specs.Paths.{is_proper}
use Rattle.glob_tree.proofs.ContentLemmas.Directories.{IsName-from_proper}
use Rattle.glob_rules.specs.Deciding.{rule_at, naming_rule, last_named, ignores, deciding_from, deciding, is_ignored as is_ignored_by}
use Rattle.glob_rules.specs.Lists.{Ignores}
use Rattle.glob_search.specs.Laws.{HasOneFile, OneFileDecides}
use Rattle.glob_search.specs.Searching.{Aim, said, last_said, files_said, is_ignored, is_kept, outer_said}
use Rattle.glob_search.proofs.EngineLemmas.Paths.{join-more}
use Rattle.glob_search.proofs.ActiveLemmas.{or-none}

join-two : (names : Key) (n m : Text) → join_with_byte slash ((names ++ n ∷ []) ++ m ∷ []) ≡ join_with_byte slash
    (names ++ n ∷ []) ++ slash ∷ m
join-two [] n m = join-more n [] m
join-two (x ∷ xs) n m = join-more x (xs ++ n ∷ []) m

module _ (a : Aim) (list : Ignores) (h : HasOneFile a list) where
  said-below : (x : Text) (xs ns : Key) (d : Bool) → files_said a (x ∷ xs) ns d ≡ None
  said-below x xs [] d = refl
  said-below x xs (n ∷ ns) d =
      ap₂ option_or (said-below x (xs ++ n ∷ []) ns d) (ap (λ ls. last_said ls (join_with_byte slash (n ∷ ns)) d) (h.below x xs))

  said-top : (n : Text) (ns : Key) (d : Bool) → files_said a [] (n ∷ ns) d ≡ said list (join_with_byte slash (n ∷ ns)) d
  said-top n ns d =
      ap₂ option_or (said-below n [] ns d) (ap (λ ls. last_said ls (join_with_byte slash (n ∷ ns)) d) h.top)
      ∙ or-none (said list (join_with_byte slash (n ∷ ns)) d)

  said-ignores : (path : Text) (d : Bool) → unwrap_or (said list path d) false ≡ ignores list (last_named list path d)
  unfolding naming_rule
  said-ignores path d = by_number (last_named list path d)
    where
      by_number : (o : Option ℕ) → unwrap_or (option_map (λ rule. not rule.negative) (option_map (rule_at list) o)) false ≡ ignores list o
      by_number None = refl
      by_number (Some k) = refl

  -- the path is ignored if the last rule that names it says so
  ignored : (n : Text) (ns : Key) (d : Bool) → is_ignored a (n ∷ ns) d ≡ ignores list (last_named list (join_with_byte slash (n ∷ ns)) d)
  ignored n ns d =
      let path = join_with_byte slash (n ∷ ns) in
      ap (λ ls. unwrap_or (option_or (last_said ls path d) (option_or (files_said a [] (n ∷ ns) d)
      (outer_said a.last path d))) false) h.first
      ∙ ap (λ ls. unwrap_or (option_or (files_said a [] (n ∷ ns) d) (outer_said ls path d)) false) h.last
      ∙ ap (λ o. unwrap_or o false) (or-none (files_said a [] (n ∷ ns) d) ∙ said-top n ns d)
      ∙ said-ignores path d

  ignored-last : (directory : Key) (n front : Text) (d : Bool) → join_with_byte slash (directory ++ n ∷ []) ≡ front ++ n
      → is_ignored a (directory ++ n ∷ []) d ≡ ignores list (last_named list (front ++ n) d)
  ignored-last [] n front d same = ignored n [] d ∙ ap (λ p. ignores list (last_named list p d)) same
  ignored-last (x ∷ xs) n front d same = ignored x (xs ++ n ∷ []) d ∙ ap (λ p. ignores list (last_named list p d)) same

  -- nothing in a name decides
  past-name : (front name rest : Text) (d : Bool) → has_no_slash name ≡ true → deciding_from list front (name ++ rest)
      d ≡ deciding_from list (front ++ name) rest d
  past-name front [] rest d plain = ap (λ f. deciding_from list f rest d) (sym (append-nil front))
  past-name front (x ∷ xs) rest d plain =
      let (here, later) = and_parts (not (x == slash)) (has_no_slash xs) plain in
      cond-false (x == slash && ignores list (last_named list front true)) (last_named list front true)
      (deciding_from list (front ++ x ∷ []) (xs ++ rest) d)
      (and_left (x == slash) (ignores list (last_named list front true)) (not-true (x == slash) here))
      ∙ past-name (front ++ x ∷ []) xs rest d later
      ∙ ap (λ f. deciding_from list f rest d) (append_assoc front (x ∷ []) xs)

  -- what is ignored decides, otherwise what comes later
  decides : (i later : Bool) (here other : Option ℕ) → ignores list here ≡ i → later ≡ not (ignores list other) →
      (not i && later) ≡ not (ignores list (cond i here other))
  decides true later here other is rest = sym (ap not is)
  decides false later here other is rest = rest

  kept : (directory : Key) (n : Text) (ns : Key) (front : Text) (d : Bool) → join_with_byte slash (directory ++ n ∷ [])
      ≡ front ++ n → list_all is_proper (n ∷ ns) ≡ true
      → is_kept a directory (n ∷ ns) d ≡ not (ignores list (deciding_from list front (join_with_byte slash (n ∷ ns)) d))
  kept directory n [] front d same proper =
      let plain = (IsName-from_proper n (and_parts (is_proper n) true proper).0).plain in
      ap (λ i. not i && true) (ap (is_ignored a (directory ++ n ∷ [])) (or-false d) ∙ ignored-last directory n front d same)
      ∙ and-true (not (ignores list (last_named list (front ++ n) d)))
      ∙ ap (λ o. not (ignores list o)) (sym (ap (λ t. deciding_from list front t d) (sym (append-nil n)) ∙ past-name front n [] d plain))
  kept directory n (m ∷ ms) front d same proper =
      let (here, later) = and_parts (is_proper n) (list_all is_proper (m ∷ ms)) proper in
      let plain = (IsName-from_proper n here).plain in
      let further : join_with_byte slash ((directory ++ n ∷ []) ++ m ∷ []) ≡ ((front ++ n) ++ slash ∷ []) ++ m =
      join-two directory n m ∙ ap (λ t. t ++ slash ∷ m) same ∙ sym (append_assoc (front ++ n) (slash ∷ []) m) in
      let rest = kept (directory ++ n ∷ []) m ms ((front ++ n) ++ slash ∷ []) d further later in
      ap (λ i. not i && is_kept a (directory ++ n ∷ []) (m ∷ ms) d)
      (ap (is_ignored a (directory ++ n ∷ [])) (or_right d true refl) ∙ ignored-last directory n front true same)
      ∙ decides (ignores list (last_named list (front ++ n) true)) (is_kept a (directory ++ n ∷ []) (m ∷ ms) d)
      (last_named list (front ++ n) true)
      (deciding_from list ((front ++ n) ++ slash ∷ []) (join_with_byte slash (m ∷ ms)) d) refl rest
      ∙ ap (λ o. not (ignores list o)) (sym (past-name front n (slash ∷ join_with_byte slash (m ∷ ms)) d plain))

pub one_file_decides : OneFileDecides
unfolding is_ignored_by deciding
one_file_decides a list h n ns d proper = kept a list h [] n ns [] d refl proper
