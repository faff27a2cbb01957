-- What a look says about a path.
use Rattle.std.specs.Prelude.{Bool, true, false}
use Rattle.glob_tree.specs.declared.tree.Look.{Look}
use Rattle.glob_tree.specs.declared.tree.Look.TheVariants as look

abbrev pub is_there : Look → Bool
is_there look.Dir = true
is_there look.Other = true
is_there look.Missing = false

abbrev pub is_directory : Look → Bool
is_directory look.Dir = true
is_directory look.Other = false
is_directory look.Missing = false
