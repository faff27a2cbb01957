-- Which rule of the lists that are held decides about a path.
use Rattle.std.specs.Prelude.{ℕ, suc, Bool, List, [], ◌∷◌, map, drop, slice_index_or, Option, None, option_map}
use Rattle.std.specs.Prelude.{string_bytes}
use Rattle.std.specs.Option.{option_or}
use Rattle.glob_text.specs.Text.{Text}
use Rattle.glob_tree.specs.Paths.{join}
use Rattle.glob_rules.specs.Deciding.{naming_rule}
use Rattle.glob_rules.specs.Lists.{Ignores}
use Rattle.glob_rules.specs.declared.rule.Rule.{Rule}
use Rattle.glob_search.specs.Asking.{Origin, First, File, Last}
use Rattle.glob_search.specs.Kept.{after_bytes}
use Rattle.glob_search.specs.declared.active.FileRules.{FileRules}
use Rattle.glob_search.specs.declared.held.HeldRules.{HeldRules}
use Rattle.glob_search.specs.declared.outer.OuterRules.{OuterRules}

-- each list, and what it sees of a path
abbrev pub seen_by : {A : Type 0} → (path : Text) → List (FileRules A) → List (Ignores × Text)
seen_by path files = map (λ f. (f.list, drop f.above path)) files

-- the same for any path: a list sees all of it where a character would be cut
abbrev pub cut_by : {A : Type 0} → (path : Text) → List (FileRules A) → List (Ignores × Text)
cut_by path files = map (λ f. (f.list, after_bytes f.above path)) files

abbrev pub seen_by_outer : {A : Type 0} → (path : Text) → List (OuterRules A) → List (Ignores × Text)
seen_by_outer path lists = map (λ l. (l.list, join (string_bytes l.prefix) path)) lists

-- the last list with a rule that names what it sees, by its number from this one on, and that rule
abbrev pub last_of : List (Ignores × Text) → (is_directory : Bool) → (first : ℕ) → Option (ℕ × Rule)
last_of [] d n = None
last_of (l ∷ ls) d n = option_or (last_of ls d (suc n)) (option_map (λ rule. (n, rule)) (naming_rule l.0 l.1 d))

-- the path of the file of a list
abbrev pub source_at : {A : Type 0} → HeldRules A → (number : ℕ) → Text
source_at h number = slice_index_or (map (λ s. string_bytes s) h.sources.items) number []

-- what decides: lists that come first, then those of files, then those that come last
abbrev pub held_rule : {A : Type 0} → HeldRules A → (path : Text) → (is_directory : Bool) → Option (Origin × Rule)
held_rule h path d =
    option_or (option_map (λ p. (First p.0, p.1)) (last_of (seen_by path h.active.first.items) d 0))
    (option_or (option_map (λ p. (File (source_at h p.0), p.1)) (last_of (seen_by path h.active.files.items) d 0))
    (option_map (λ p. (Last p.0, p.1)) (last_of (seen_by_outer path h.active.last.items) d 0)))
