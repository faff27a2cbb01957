-- How options are written: several flags in one word, and a value in the word of its option.
use Rattle.std.specs.Prelude.{ℕ, ◌==◌, ◌&&◌, not, Bool, [], ◌∷◌, List, Option, None, Some, if◌then◌else◌, is_some}
use Rattle.std.specs.Prelude.{length, nat_lt, option_map}
use Rattle.std.specs.List.{after_first, before_first, position_or_len}
use Rattle.std.specs.Str.{is_utf8}
use Rattle.glob_text.specs.Pieces.{is_empty}
use Rattle.glob_text.specs.Text.{Text}
use Rattle.globs.specs.Options.{valued_of, with_flag}
use Rattle.globs.specs.declared.name.Name.{Name}
use Rattle.globs.specs.declared.options.Settings.{Settings}
use Rattle.globs.specs.declared.options.Valued.{Valued}

-- the settings with the flag of a letter set, if there is one: a hyphen and the letter
abbrev pub with_letter : Name → (letter : ℕ) → Settings → Option Settings
with_letter name letter s =
    if is_utf8 (45 ∷ letter ∷ []) then with_flag name (45 ∷ letter ∷ []) s else None

-- the settings with the flag of each letter set
abbrev pub with_letters : Name → (letters : List ℕ) → Settings → Option Settings
with_letters name [] s = Some s
with_letters name (letter ∷ letters) s =
    elim (with_letter name letter s) [ Some set ↦ with_letters name letters set | None ↦ None ]

-- the settings with the flags of a hyphen and joined letters set
abbrev pub with_joined : Name → Text → Settings → Option Settings
with_joined name [] s = None
with_joined name (dash ∷ letters) s = if dash == 45 && not (is_empty letters) then with_letters name letters s else None

-- the settings with the flags of a word set: one flag, or several joined ones
abbrev pub with_flags : Name → Text → Settings → Option Settings
with_flags name word s =
    if is_some (with_flag name word s) then with_flag name word s else with_joined name word s

-- `=`
abbrev pub is_equals : ℕ → Bool
is_equals c = c == 61

-- the option and the value in a word that has both: before and after the first `=`
abbrev pub attached : Name → Text → Option (Valued × Text)
attached name word =
    if nat_lt (position_or_len is_equals word) (length word)
    then option_map (λ option. (option, after_first is_equals word)) (valued_of name (before_first is_equals word))
    else None
