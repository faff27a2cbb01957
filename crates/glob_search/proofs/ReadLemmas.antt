-- What reading ignore files adds to the lists.
use Rattle.std.proofs.Common.{◌≡◌, ℕ, ◌-◌, List, [], ◌∷◌, ◌++◌, length, Option, Some, None}
use Rattle.std.proofs.Common.{refl, ap, sym, ◌∙◌, arith}
use Rattle.std.specs.Prelude.{option_map}
use Rattle.std.specs.List.{cons_option, join_with_byte}
use Rattle.std.proofs.lemmas.List.{append-nil, append_assoc, length-append, map-append}
use Rattle.std.proofs.lemmas.List.Elements.{filter_map-append}
use Rattle.glob_text.specs.Characters.{slash}
use Rattle.glob_text.specs.Text.{Text}
use Rattle.glob_tree.specs.Content.{Key}
use Rattle.glob_tree.specs.Paths.{join}
use Rattle.glob_rules.specs.Lists.{Ignores, rules_of}
use Rattle.glob_search.specs.Aims.{path_of, rules_from}
use Rattle.glob_search.specs.Private.Active.{above_of, active_lists, after}
use Rattle.glob_search.specs.Private.Reading.{Adds, sources_in, sources_of}
use Rattle.glob_search.specs.declared.held.HeldRules.{HeldRules}
use Rattle.glob_search.proofs.EngineLemmas.Paths.{AreProper, join-more, join-next, path_of-joined}

-- the bytes of a path in a directory that are the directory's
pub path-above : (names : Key) (n : Text) → length (path_of (names ++ n ∷ [])) - length n ≡ above_of names
path-above [] n = omega arith
path-above (m ∷ ms) n = omega (arith, ap length (join-more m ms n), length-append (join_with_byte slash (m ∷ ms)) (slash ∷ n))

pub read-some : (names : Key) (above : ℕ) (list : Ignores) (o : Option Text) → above ≡ above_of names → Some list ≡ option_map rules_of o
    → (above, list) ∷ [] ≡ after (above_of names) (cons_option (option_map rules_of o) [])
read-some names above list o same is =
    let f : ℕ → List (ℕ × Ignores) = λ n. (n, list) ∷ [] in
    ap f same ∙ ap (λ p. after (above_of names) (cons_option p [])) is

pub read-none : (names : Key) (o : Option Text) (ls : List (ℕ × Ignores)) → None ≡ option_map rules_of o
    → ls ≡ ls ++ after (above_of names) (cons_option (option_map rules_of o) [])
read-none names o ls is = sym (append-nil ls) ∙ ap (λ p. ls ++ after (above_of names) (cons_option p [])) is

-- the path of a file in a directory
pub path-joined : (directory : Key) (name path : Text) → AreProper directory → path ≡ join (join_with_byte slash directory) name
    → path ≡ path_of (directory ++ name ∷ [])
path-joined directory name path h is = is ∙ join-next directory name h ∙ sym (path_of-joined directory name)

pub source-none : (directory : Key) (file : Text) (o : Option Text) (ss : List Text) → None ≡ option_map rules_of o
    → ss ≡ ss ++ cons_option (option_map (λ (text : Text). path_of (directory ++ file ∷ [])) o) []
source-none directory file None ss is = sym (append-nil ss)
source-none directory file (Some text) ss is = absurd (cc)

pub source-some : (directory : Key) (file : Text) (list : Ignores) (o : Option Text) → Some list ≡ option_map rules_of o
    → path_of (directory ++ file ∷ []) ∷ [] ≡ cons_option (option_map (λ (text : Text). path_of (directory ++ file ∷ [])) o) []
source-some directory file list None is = absurd (cc)
source-some directory file list (Some text) is = refl

-- one file more
pub read-more : {A : Type 0} (known : Text → Option Text) (directory : Key) (files : List Text) (file : Text) (old mid new : HeldRules A)
    → Adds known files directory old mid → Adds known (file ∷ []) directory mid new → Adds known (files ++ file ∷ []) directory old new
read-more known directory files file old mid new is more =
    let k = above_of directory in
    let rule : Text → Option Ignores = λ f. option_map rules_of (known (path_of (directory ++ f ∷ []))) in
    let source : Text → Option Text = λ f. option_map (λ (text : Text). path_of (directory ++ f ∷ []))
    (known (path_of (directory ++ f ∷ []))) in
    let here = after k (rules_from known (file ∷ []) directory) in
    let there = sources_in known (file ∷ []) directory in
    let lists = active_lists old.active.files.items in
    record {
      lists = more.lists
          ∙ ap (λ ls. ls ++ here) is.lists
          ∙ append_assoc lists (after k (rules_from known files directory)) here
          ∙ ap (λ ls. lists ++ ls)
          (sym (map-append (λ l. (k, l)) (rules_from known files directory) (rules_from known (file ∷ []) directory))
          ∙ ap (after k) (sym (filter_map-append rule files (file ∷ []))));
      sources = more.sources
          ∙ ap (λ ls. ls ++ there) is.sources
          ∙ append_assoc (sources_of old) (sources_in known files directory) there
          ∙ ap (λ ls. sources_of old ++ ls) (sym (filter_map-append source files (file ∷ [])));
    }
