-- The items of a plain walk: what it finds below its start, and so the keys that the components take.
use Rattle.std.proofs.Common.{◌≡◌, true, false, map, sym, ap, ◌∙◌}
use Rattle.std.specs.Prelude.{Contains, option_map, unwrap_or}
use Rattle.std.proofs.lemmas.Bool.{and_parts}
use Rattle.glob_text.specs.Text.{Text}
use Rattle.glob_text.specs.Pieces.{ends_with}
use Rattle.glob_text.specs.Characters.{slash}
use Rattle.glob_tree.specs.Content.{Content, Key, is_dir, origin}
use Rattle.glob_tree.proofs.ContentLemmas.Contents.{IsContent, IsContent-from_test}
use Rattle.glob_tree.proofs.ContentLemmas.Directories.{directory_kind}
use Rattle.glob_walk.specs.Walks.{items, enter, listing}
use Rattle.glob_walk.specs.Components.{start, components}
use Rattle.glob_walk.specs.Goal.{are_plain, is_plain}
use Rattle.glob_walk.specs.Laws.{IsPlainWalk}
use Rattle.glob_pattern.specs.declared.options.MatchOptions.{MatchOptions}
use Rattle.glob_walk.proofs.ListingLemmas.Looking.{directory_found}
use Rattle.glob_walk.proofs.GoalLemmas.PatternParts.{components-flat}
use Rattle.glob_walk.proofs.GoalLemmas.KeysBelow.{Here}
use Rattle.glob_walk.proofs.GoalLemmas.NamedPaths.{LeadsTo-start}
use Rattle.glob_walk.proofs.GoalLemmas.Finds.{Hit, item_under, finds}
use Rattle.glob_walk.proofs.GoalLemmas.ListingFinds.{same_enter}
use Rattle.glob_walk.proofs.GoalLemmas.FoundIsTaken.{hits_are_taken}
use Rattle.glob_walk.proofs.GoalLemmas.TakenIsFound.{FoundOrCovered, taken_are_found}
use Rattle.glob_walk.proofs.GoalLemmas.GoalNames.{IsTaken}

module _ (c : Content) (o : MatchOptions) (pattern : Text) (p : IsPlainWalk c pattern) where
  w : IsContent c
  w = IsContent-from_test c p.content

  plain-components : are_plain false (components pattern) ≡ true
  unfolding is_plain
  plain-components = (and_parts _ (are_plain false (components pattern)) p.plain).1

  -- the start is a directory
  here : Here c (origin c pattern) true
  here = let at = LeadsTo-start c w pattern in let found = directory_kind c (origin c pattern) at.directory in
      record { kind = found.0; held = found.1; is = sym (ap (λ x. unwrap_or (option_map is_dir x) false) found.1) ∙ at.directory }

  -- the items of the written listing are the items of what is found
  pub items-finds : items (listing c o pattern) ≡ map (item_under (start pattern)) (finds c o pattern)
  unfolding listing
  items-finds =
      let at = LeadsTo-start c w pattern in
      ap (λ d. items (enter c o (ends_with slash pattern) (components pattern) (start pattern) d))
      (directory_found c (start pattern) (origin c pattern) at)
      ∙ same_enter c w o (ends_with slash pattern) (components pattern) plain-components (components-flat pattern)
      (start pattern) (origin c pattern) true (record { resolved = at.resolved; is = at.directory })

  -- each hit is a key that the components take
  pub found_is_taken : (names : Key) → Contains (finds c o pattern) (Hit names) → IsTaken c o pattern names
  found_is_taken = hits_are_taken c w o (ends_with slash pattern) (components pattern) (origin c pattern) true here

  -- each key that the components take is a hit, or is below a directory that cannot be listed
  pub taken_is_found : (names : Key) → IsTaken c o pattern names → FoundOrCovered c (finds c o pattern) (origin c pattern) names
  taken_is_found = taken_are_found c w o (ends_with slash pattern) (components pattern) (origin c pattern) true here
