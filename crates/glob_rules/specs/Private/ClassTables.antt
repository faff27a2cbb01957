-- Looks up a character class by name in a table.
use Rattle.std.specs.Prelude.{if◌then◌else◌, List, [], ◌∷◌, Option, Some, None, bytes_eq}
use Rattle.glob_text.specs.Text.{Text}
use Rattle.glob_rules.specs.declared.classes.Class.{Class}

-- the class with this name in the table
abbrev pub class_in : List (Text × Class) → (name : Text) → Option Class
class_in [] name = None
class_in (class ∷ classes) name = if bytes_eq name class.0 then Some class.1 else class_in classes name
