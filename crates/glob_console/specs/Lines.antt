-- What a line of standard error says.
use Rattle.std.specs.Prelude.{ℕ, ◌⊎◌, List, ◌++◌, Option, codes}
use Rattle.glob_lines.specs.Lines.{AppendsFront}

-- The first n bytes of the line with this text were written, for some n; or, if an allocation failed, the first n bytes
-- of the line that says so.
abbrev pub WritesLine : (prefix text : List ℕ) → (old new : Option (List ℕ)) → Type 0
WritesLine prefix text old new =
    AppendsFront old new (prefix ++ (text ++ codes "\n")) ⊎ AppendsFront old new (prefix ++ codes "out of memory\n")
