-- How names that are not UTF-8 are reported.
use Rattle.std.specs.Prelude.{ℕ, Bool, false, ◌&&◌, ◌==◌, not, if◌then◌else◌, List, [], ◌∷◌, ◌++◌, codes, nat_le, ◌/◌, ◌%◌}
use Rattle.std.specs.Fmt.{digits}
use Rattle.std.specs.List.{flat_map}
use Rattle.glob_text.specs.Text.{Text}
use Rattle.globs.specs.Visible.{escape, visible}

-- the byte is written as it is: from `!` to `~`, except a backslash
abbrev pub is_shown : ℕ → Bool
is_shown byte = nat_le 33 byte && (nat_le byte 126 && not (byte == 92))

-- what is written for a byte of a name: itself, or as `\xff`
abbrev pub byte_words : ℕ → Text
byte_words byte =
    if is_shown byte then byte ∷ []
    else escape 120 ++ (digits 16 false (byte / 16) ++ digits 16 false (byte % 16))

-- the line about a name in a directory, after the lead of the patterns
abbrev pub stray_words : (lead directory : Text) → (name : List ℕ) → Text
stray_words lead directory name =
    (codes "a name in `" ++ (lead ++ (visible directory ++ codes "` is not UTF-8: "))) ++ flat_map byte_words name
