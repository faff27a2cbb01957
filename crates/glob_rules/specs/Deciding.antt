-- Which rule decides whether a path is ignored.
use Rattle.std.specs.Prelude.{ℕ, zero, suc, Bool, true, false, ◌&&◌, ◌||◌, not, ◌==◌, if◌then◌else◌, [], ◌∷◌, ◌++◌}
use Rattle.std.specs.Prelude.{length, slice_index_or, Option, Some, None, option_map}
use Rattle.std.specs.Str.{chars}
use Rattle.glob_text.specs.Characters.{slash}
use Rattle.glob_text.specs.Text.{Text}
use Rattle.glob_pattern.specs.Computing.Deciding.{is_match}
use Rattle.glob_rules.specs.Lists.{Ignores, rule_options}
use Rattle.glob_rules.specs.declared.rule.Rule.{Rule}

-- the rule with this number
abbrev pub rule_at : Ignores → (number : ℕ) → Rule
rule_at list number =
    slice_index_or list.rules number (record { line = 0; negative = false; directories = false })

-- Rule `number` matches a path: its pattern does, and the path is a directory or the rule is not only for directories.
unfoldable pub names : Ignores → (path : Text) → (is_directory : Bool) → (number : ℕ) → Bool
names list path is_directory number =
    (is_directory || not (rule_at list number).directories)
    && is_match rule_options (chars (slice_index_or list.patterns number [])) (chars path)

-- among the first n rules, the number of the last one that matches a path
abbrev pub last_naming : Ignores → (path : Text) → (is_directory : Bool) → (n : ℕ) → Option ℕ
last_naming list path is_directory zero = None
last_naming list path is_directory (suc n) =
    if names list path is_directory n then Some n else last_naming list path is_directory n

-- the number of the last rule that matches a path
unfoldable pub last_named : Ignores → (path : Text) → (is_directory : Bool) → Option ℕ
last_named list path is_directory = last_naming list path is_directory (length list.rules)

-- the rule with that number, if there is one
unfoldable pub naming_rule : Ignores → (path : Text) → (is_directory : Bool) → Option Rule
naming_rule list path is_directory = option_map (rule_at list) (last_named list path is_directory)

-- there is a rule, and it is not negative
abbrev pub ignores : Ignores → (number : Option ℕ) → Bool
ignores list None = false
ignores list (Some number) = not (rule_at list number).negative

-- The rule that decides about the path `front` and `rest`. What comes before a separator of the rest is a directory
-- above the path. If the last rule that matches such a directory ignores it, that rule decides; otherwise the last rule
-- that matches the path decides.
abbrev pub deciding_from : Ignores → (front rest : Text) → (is_directory : Bool) → Option ℕ
deciding_from list front [] is_directory = last_named list front is_directory
deciding_from list front (c ∷ cs) is_directory =
    if c == slash && ignores list (last_named list front true) then last_named list front true
    else deciding_from list (front ++ c ∷ []) cs is_directory

-- the number of the rule that decides about a path
unfoldable pub deciding : Ignores → (path : Text) → (is_directory : Bool) → Option ℕ
deciding list path is_directory = deciding_from list [] path is_directory

-- the rule that decides about a path
unfoldable pub deciding_rule : Ignores → (path : Text) → (is_directory : Bool) → Option Rule
deciding_rule list path is_directory = option_map (rule_at list) (deciding list path is_directory)

-- the path is ignored
unfoldable pub is_ignored : Ignores → (path : Text) → (is_directory : Bool) → Bool
is_ignored list path is_directory = ignores list (deciding list path is_directory)
