-- The two characters with a special meaning in texts, names and paths.
use Rattle.std.specs.Prelude.{ℕ}

-- `/`, the only separator
abbrev pub slash : ℕ
slash = 47

-- `.`
abbrev pub dot : ℕ
dot = 46
