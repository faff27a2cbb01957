-- Which paths the ignore rules of directories leave out, and which rule decides, whatever the order of the questions.
use Rattle.std.specs.Prelude.{◌≡◌, ℕ, suc, Bool, true, ◌&&◌, ◌||◌, not, if◌then◌else◌, List, [], ◌∷◌, ◌++◌}
use Rattle.std.specs.Prelude.{filter_map, Option, None, option_map, string_bytes}
use Rattle.std.specs.List.{list_all, join_with_byte}
use Rattle.std.specs.Option.{option_or}
use Rattle.glob_text.specs.Characters.{slash}
use Rattle.glob_text.specs.Pieces.{pieces}
use Rattle.glob_text.specs.Text.{Text}
use Rattle.glob_rules.specs.Deciding.{naming_rule}
use Rattle.glob_rules.specs.Lists.{Ignores, rules_of}
use Rattle.glob_rules.specs.declared.rule.Rule.{Rule}
use Rattle.glob_tree.specs.Content.{Key}
use Rattle.glob_tree.specs.Paths.{is_proper, join}
use Rattle.glob_search.specs.Aims.{path_of, rules_from}
use Rattle.glob_search.specs.Searching.{Aim, is_ignored, is_kept, is_nil}
use Rattle.glob_search.specs.declared.deciding.DecidingRule.{DecidingRule}
use Rattle.glob_search.specs.declared.deciding.RuleList.{RuleList}
use Rattle.glob_search.specs.declared.deciding.RuleList.TheVariants as from

-- The path is left out: it is ignored, or a directory above it is. Its names are proper.
abbrev pub is_left_out : Aim → (path : Text) → (is_directory : Bool) → Bool
is_left_out a path d = list_all is_proper (pieces path) && not (is_kept a [] (pieces path) d)

-- where a list of rules is from
pub data Origin : Type 0 where
  First : (index : ℕ) → Origin
  File : (path : Text) → Origin
  Last : (index : ℕ) → Origin

-- a list, where it is from, and the path that its rules are asked about
pub record Asked : Type 0 where
  pub origin : Origin
  pub rules : Ignores
  pub path : Text

-- what is made of the elements of a list and their indices, the first of which is this
abbrev pub numbered : {A B : Type 0} → (ℕ → A → B) → (first : ℕ) → List A → List B
numbered make n [] = []
numbered make n (x ∷ xs) = make n x ∷ numbered make (suc n) xs

-- the ignore files of a directory, asked about the path of these names in it
abbrev pub asked_in : (known : Text → Option Text) → (files : List Text) → (directory names : Key) → List Asked
asked_in known files directory names =
    filter_map (λ file. option_map (λ text. record {
      origin = File (path_of (directory ++ file ∷ []));
      rules = rules_of text;
      path = join_with_byte slash names;
    }) (known (path_of (directory ++ file ∷ [])))) files

-- those of a directory and of the directories below it on the way to the path
abbrev pub asked_below : (known : Text → Option Text) → (files : List Text) → (directory names : Key) → List Asked
asked_below known files directory [] = []
asked_below known files directory (n ∷ ns) =
    asked_in known files directory (n ∷ ns) ++ asked_below known files (directory ++ n ∷ []) ns

-- All lists that are asked about a path. The last one with a rule that names the path decides.
abbrev pub asked : Aim → (known : Text → Option Text) → (files : List Text) → (names : Key) → List Asked
asked a known files names =
    let path = join_with_byte slash names in
    numbered (λ n l. record { origin = Last n; rules = l.1; path = join l.0 path }) 0 a.last
    ++ (asked_below known files [] names
    ++ numbered (λ n l. record { origin = First n; rules = l; path = path }) 0 a.first)

-- the last list with a rule that names its path, and the last such rule
abbrev pub last_rule : List Asked → (is_directory : Bool) → Option (Origin × Rule)
last_rule [] d = None
last_rule (l ∷ ls) d = option_or (last_rule ls d)
    (option_map (λ rule. (l.origin, rule)) (naming_rule l.rules l.path d))

-- The rule that decides about the path of some names below a directory: that of the highest ignored directory on the way,
-- or otherwise that of the path.
abbrev pub rule_below : Aim → (known : Text → Option Text) → (files : List Text) → (directory names : Key)
    → (is_directory : Bool) → Option (Origin × Rule)
rule_below a known files directory [] d = None
rule_below a known files directory (n ∷ ns) d =
    let next = directory ++ n ∷ [] in
    if is_nil ns || is_ignored a next true then last_rule (asked a known files next) (d || not (is_nil ns))
    else rule_below a known files next ns d

-- the rule that decides about a path, if its names are proper
abbrev pub rule_about : Aim → (known : Text → Option Text) → (files : List Text) → (path : Text)
    → (is_directory : Bool)
    → Option (Origin × Rule)
rule_about a known files path d =
    if list_all is_proper (pieces path) then rule_below a known files [] (pieces path) d else None

abbrev pub origin_of : {A : Type 0} → RuleList A → Origin
origin_of (from.First n) = First n
origin_of (from.File path) = File (string_bytes path)
origin_of (from.Last n) = Last n

-- what a caller is told: where the list of the rule is from, and the rule
abbrev pub decision_of : {A : Type 0} → DecidingRule A → Origin × Rule
decision_of r = (origin_of r.list, r.rule)

-- Which directories are entered is an affair of the rules, of a type of its own. What a caller knows is whether what was
-- read in them agrees with the known texts of files.
pub record Reading : Type 1 where
  pub State : Type 0
  pub Agrees : Aim → (known : Text → Option Text) → State → Type 0

-- what contracts see of the rules
pub record RulesState (R : Reading) : Type 0 where
  -- the names of the ignore files
  pub files : List Text
  -- what was read
  pub state : R.State

-- The rules are those that a search for this has, if the texts of files are known.
pub record AreRulesOf (a : Aim) (known : Text → Option Text) (first : List Ignores) (files : List Text)
    (last : List (Text × Ignores)) : Type 0 where
  pub begins : a.first ≡ first
  pub reads : (directory : Key) → a.rules_in directory ≡ rules_from known files directory
  pub ends : a.last ≡ last

-- So far these are the rules of the aim, and all files had their known texts.
abbrev pub Agrees : {R : Reading} → Aim → (known : Text → Option Text) → RulesState R → Type 0
Agrees {R} a known s = R.Agrees a known s.state
