-- Words that differ from an option or a command by a slip of the fingers.
use Rattle.std.specs.Prelude.{ℕ, ◌||◌, ◌&&◌, ◌==◌, ◌∷◌, Bool, false, if◌then◌else◌, List, [], bytes_eq, codes}
use Rattle.glob_text.specs.Text.{Text}

-- two texts begin with the same two bytes in the other order, and are equal otherwise
abbrev pub are_swapped : (word name : List ℕ) → Bool
are_swapped [] name = false
are_swapped (a ∷ []) name = false
are_swapped (a ∷ b ∷ word) [] = false
are_swapped (a ∷ b ∷ word) (c ∷ []) = false
are_swapped (a ∷ b ∷ word) (c ∷ d ∷ name) = a == d && (b == c && bytes_eq word name)

-- two texts differ by one byte, or by the order of two neighbours
abbrev pub is_near : (word name : List ℕ) → Bool
is_near [] [] = false
is_near [] (d ∷ name) = bytes_eq name []
is_near (c ∷ word) [] = bytes_eq word []
is_near (c ∷ word) (d ∷ name) =
    if c == d then is_near word name
    else (bytes_eq word name || (bytes_eq word (d ∷ name)
    || (bytes_eq (c ∷ word) name || are_swapped (c ∷ word) (d ∷ name))))

-- the option of `find` that a word is nearly
unfoldable pub near_option_words : (word : Text) → Text
near_option_words word =
    if is_near word (codes "--max-depth")
    then codes "; the nearest is --max-depth"
    else (if is_near word (codes "--ignore")
    then codes "; the nearest is --ignore"
    else (if is_near word (codes "--ignore-files")
    then codes "; the nearest is --ignore-files"
    else (if is_near word (codes "--directory")
    then codes "; the nearest is --directory"
    else (if is_near word (codes "--git")
    then codes "; the nearest is --git"
    else (if is_near word (codes "--utf8-only")
    then codes "; the nearest is --utf8-only"
    else [])))))

-- the option for help, if a word is nearly that, or else the option of `find` that it is nearly
unfoldable pub near_help_words : (word : Text) → Text
near_help_words word =
    if is_near word (codes "--help")
    then codes "; the nearest is --help"
    else near_option_words word

-- the command that a word is nearly
unfoldable pub near_command_words : (word : Text) → Text
near_command_words word =
    if is_near word (codes "find")
    then codes "; the nearest is globs find"
    else (if is_near word (codes "match")
    then codes "; the nearest is globs match"
    else (if is_near word (codes "ignore")
    then codes "; the nearest is globs ignore"
    else (if is_near word (codes "explain")
    then codes "; the nearest is globs explain"
    else (if is_near word (codes "escape")
    then codes "; the nearest is globs escape"
    else (if is_near word (codes "help")
    then codes "; the nearest is globs help"
    else (if is_near word (codes "--version")
    then codes "; the nearest is globs --version"
    else []))))))
